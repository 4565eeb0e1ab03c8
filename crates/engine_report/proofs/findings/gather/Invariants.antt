use Rattle.std.proofs.Common.{◌≡◌}
use Rattle.engine_report.specs.Findings.{receipts_in}
use Rattle.engine_report.proofs.findings.gather.Given as goal

abbrev pub invariant-loop-report : goal.invariant-loop-report
invariant-loop-report l = l.all.items ≡ receipts_in l.yielded
