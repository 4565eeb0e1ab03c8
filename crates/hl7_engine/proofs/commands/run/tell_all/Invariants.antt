use Rattle.std.proofs.Common.{◌≡◌}
use Rattle.engine_report.specs.Findings.{last_told}
use Rattle.hl7_engine.proofs.commands.run.tell_all.Given as goal

abbrev pub invariant-loop-fault : goal.invariant-loop-fault
invariant-loop-fault l = l.last ≡ last_told l.initial.last l.yielded
