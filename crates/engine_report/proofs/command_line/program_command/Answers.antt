use Rattle.std.proofs.lemmas.Result.{IfOk-weaker}
use Rattle.engine_report.proofs.Commands.{added}
use Rattle.engine_report.proofs.command_line.program_command.Goals as goal

pub returns : goal.returns
returns c =
    IfOk-weaker c.subcommand.result _ _ (λ r adds. added _ _ r _ _ adds c.in_ok-checking.ensures c.in_ok-run.ensures.app c.in_ok-run.ensures.local) c.subcommand.ensures
