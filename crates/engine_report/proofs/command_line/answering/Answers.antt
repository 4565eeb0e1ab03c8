use Rattle.std.proofs.lemmas.Result.{IfOk-weaker}
use Rattle.engine_report.proofs.Commands.{added}
use Rattle.engine_report.proofs.command_line.answering.Goals as goal

pub returns : goal.returns
returns c =
    IfOk-weaker c.subcommand.result _ _ (λ r adds. added _ _ r _ _ adds c.top_command.ensures c.in_ok-answer.ensures.app c.in_ok-answer.ensures.local) c.subcommand.ensures
