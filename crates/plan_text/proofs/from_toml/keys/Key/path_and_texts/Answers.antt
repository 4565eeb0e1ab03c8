use Rattle.std.proofs.Common.{◌≡◌, true, nat_le, le-leb, arith, rules}
use Rattle.std.proofs.lemmas.Result.{err_from_is_err_and}
use Rattle.toml.specs.View.{array_view}
use Rattle.plan_text.specs.Keys.{item_count}
use Rattle.plan_text.proofs.Items.{item_count_view}
use Rattle.plan_text.proofs.Told.{path_and_texts-fails, path_and_texts-reads}
use Rattle.plan_text.proofs.from_toml.keys.Key.path_and_texts.Goals as goal

pub returns-in_err-path_in : goal.returns-in_err-path_in
returns-in_err-path_in c =
    let p = err_from_is_err_and c.from_residual-in_err-path_in.result c.from_residual-in_err-path_in.ensures.1 in
    let few : nat_le (item_count (array_view c.in-Some.values.now)) 256 ≡ true = rw (item_count_view c.in-Some.values.now.items) (le-leb _ _ (omega arith)) in
    rw (p.1, p.2) (path_and_texts-fails c.in_err-path_in.field-0.0 _ _ _ c.in-Some.path.now (array_view c.in-Some.values.now) c.in-Some-2.texts.items c.in_ok-required.ensures.there c.in-Some.ensures (search rules) few c.in_err-path_in.ensures)

pub returns : goal.returns
returns c =
    let few : nat_le (item_count (array_view c.in-Some.values.now)) 256 ≡ true = rw (item_count_view c.in-Some.values.now.items) (le-leb _ _ (omega arith)) in
    path_and_texts-reads _ _ _ c.in-Some.path.now (array_view c.in-Some.values.now) c.in-Some-2.texts.items _ c.in_ok-required.ensures.there c.in-Some.ensures (search rules) few c.in_ok-path_in.ensures
