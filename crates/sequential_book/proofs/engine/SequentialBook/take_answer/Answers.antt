use Rattle.sequential_book.proofs.Replies.{slot-within}
use Rattle.sequential_book.proofs.engine.SequentialBook.take_answer.Goals as goal

pub front_answer-requires : goal.front_answer-requires
front_answer-requires c = rw c.in_ok-slot-in-Some.ensures (slot-within c.args.self.now c.rules.ensures.sound c.in-Some.number.now c.args.d)
