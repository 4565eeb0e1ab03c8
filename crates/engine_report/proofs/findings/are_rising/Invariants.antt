use Rattle.std.proofs.Common.{take}
use Rattle.std.specs.Prelude.{All}
use Rattle.engine_report.specs.Findings.{IsRising}
use Rattle.engine_report.proofs.findings.are_rising.Given as goal

abbrev pub invariant-loop-report : goal.invariant-loop-report
invariant-loop-report l = All IsRising (take l.report-index l.served)
