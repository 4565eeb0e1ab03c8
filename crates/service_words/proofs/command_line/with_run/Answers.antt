use Rattle.std.proofs.lemmas.Result.{IfOk-weaker}
use Rattle.service_words.proofs.Commands.{added}
use Rattle.service_words.proofs.command_line.with_run.Goals as goal

pub returns : goal.returns
returns c =
    IfOk-weaker c.subcommand.result _ _ (λ r adds. added _ _ r _ _ adds c.top_command.ensures c.in_ok-run.ensures.app c.in_ok-run.ensures.local) c.subcommand.ensures
