use Rattle.std.proofs.Common.{refl, rules, subst, arith}
use Rattle.std.specs.Prelude.{All}
use Rattle.std.proofs.lemmas.List.{take_all}
use Rattle.std.proofs.lemmas.List.Elements.{All-more}
use Rattle.engine_report.specs.Findings.{IsRising}
use Rattle.engine_report.proofs.findings.are_rising.Goals as goal

pub loop-report-preserved : goal.loop-report-preserved
loop-report-preserved c =
    let rises : IsRising c.report-item.result = search rules in
    All-more IsRising c.args.served.now c.loop-report.report-index c.report-item.result (omega arith) c.loop-report.invariant (subst IsRising c.report-item.is rises)

pub returns : goal.returns
returns c =
    let all : All IsRising c.args.served.now = subst (All IsRising) (take_all c.loop-report.report-index c.args.served.now (omega arith)) c.loop-report.invariant in
    (λ _. all, λ _. refl)
