use Rattle.std.proofs.lemmas.Result.{IfOk-weaker}
use Rattle.service_words.proofs.Commands.{added}
use Rattle.service_words.proofs.command_line.with_check.Goals as goal

pub returns : goal.returns
returns c =
    IfOk-weaker c.subcommand.result _ _ (λ r adds. added _ _ r _ _ adds c.in_ok-with_try.ensures c.in_ok-check.ensures.app c.in_ok-check.ensures.local) c.subcommand.ensures
