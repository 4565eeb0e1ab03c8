use Rattle.std.proofs.lemmas.Result.{IfOk-weaker}
use Rattle.service_words.proofs.Commands.{added}
use Rattle.service_words.proofs.command_line.program_command.Goals as goal

pub returns : goal.returns
returns c =
    IfOk-weaker c.subcommand.result _ _ (λ r adds. added _ _ r _ _ adds c.in_ok-with_check.ensures c.in_ok-store.ensures.app c.in_ok-store.ensures.local) c.subcommand.ensures
