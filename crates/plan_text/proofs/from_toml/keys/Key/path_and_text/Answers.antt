use Rattle.std.proofs.lemmas.Result.{err_from_is_err_and}
use Rattle.plan_text.proofs.Told.{path_and_text-fails}
use Rattle.plan_text.proofs.from_toml.keys.Key.path_and_text.Goals as goal

pub returns-in_err-path : goal.returns-in_err-path
returns-in_err-path c =
    let p = err_from_is_err_and c.from_residual-in_err-path.result c.from_residual-in_err-path.ensures.1 in
    rw (p.1, p.2) (path_and_text-fails c.in_err-path.field-0.0 _ _ _ c.in-Some.path.now c.in-Some.text.now c.in_ok-required.ensures.there c.in-Some.ensures c.in_err-path.ensures)
