use Rattle.std.proofs.Common.{refl}
use Rattle.std.proofs.lemmas.Result.{IfOk-weaker}
use Rattle.service_words.proofs.Commands.{stays_local, with_word}
use Rattle.service_words.proofs.command_line.with_word.Goals as goal

pub returns-clause-app : goal.returns-clause-app
returns-clause-app c = IfOk-weaker c.arg.result _ _ (λ r adds. with_word _ r _ _ adds refl c.requires.word) c.arg.ensures

pub returns-clause-local : goal.returns-clause-local
returns-clause-local c = IfOk-weaker c.arg.result _ _ (λ r adds. stays_local _ r _ adds c.requires.command c.requires.word) c.arg.ensures
