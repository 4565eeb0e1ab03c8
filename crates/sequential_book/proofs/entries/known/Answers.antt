use Rattle.std.proofs.Common.{sym}
use Rattle.std.proofs.lemmas.Iterator.Adapters.{position_from-zero}
use Rattle.event_log.specs.Answers.{keeps}
use Rattle.sequential_book.proofs.entries.known.Goals as goal

pub loop-place-init : goal.loop-place-init
loop-place-init c = sym (position_from-zero (keeps c.args.key.now) c.args.entries.now)
