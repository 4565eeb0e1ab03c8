use Rattle.std.proofs.lemmas.Result.{IfOk-weaker}
use Rattle.engine_report.proofs.Commands.{added}
use Rattle.engine_report.proofs.command_line.checking.Goals as goal

pub returns : goal.returns
returns c =
    IfOk-weaker c.subcommand.result _ _ (λ r adds. added _ _ r _ _ adds c.in_ok-answering.ensures c.in_ok-check.ensures.app c.in_ok-check.ensures.local) c.subcommand.ensures
