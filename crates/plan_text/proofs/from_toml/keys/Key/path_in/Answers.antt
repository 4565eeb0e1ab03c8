use Rattle.std.proofs.Common.{sym}
use Rattle.plan_text.proofs.Told.{bad_path}
use Rattle.plan_text.proofs.from_toml.keys.Key.path_in.Goals as goal

pub returns-in-Err : goal.returns-in-Err
returns-in-Err c = bad_path c.fault.result _ c.args.text.now _ _ (sym c.in-Err.ensures) c.fault.ensures
