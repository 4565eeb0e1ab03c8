use Rattle.std.proofs.Common.{◌≡◌, List, [], ◌∷◌, ◌++◌, Result, Err, refl}
use Rattle.engine_report.specs.declared.fault.Fault.{Fault}
use Rattle.engine_report.specs.Findings.{last_told}
use Rattle.hl7_engine.proofs.commands.run.tell_all.Goals as goal

-- what was told last is the last fault
last : (before : Result (Unit {0}) Fault) (fs : List Fault) (f : Fault) → Err f ≡ last_told before (fs ++ f ∷ [])
last before [] f = refl
last before (e ∷ fs) f = last (Err e) fs f

pub loop-fault-preserved : goal.loop-fault-preserved
loop-fault-preserved c = last c.args.before c.loop-fault.yielded c.in-Some.fault
