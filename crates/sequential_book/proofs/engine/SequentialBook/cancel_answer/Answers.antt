use Rattle.std.proofs.Common.{arith}
use Rattle.sequential_book.proofs.Blank.{cancel-nothing, cancel-some}
use Rattle.sequential_book.proofs.engine.SequentialBook.cancel_answer.Goals as goal

pub returns-then-mask-eq0 : goal.returns-then-mask-eq0
returns-then-mask-eq0 c = cancel-nothing c.args.self.now c.args.number c.args.among (c.message_count.ensures.there c.args.number (omega arith)) c.in_ok-mask.mask c.in_ok-mask.ensures c.if-mask-eq0.true

pub returns-else-mask-eq0 : goal.returns-else-mask-eq0
returns-else-mask-eq0 c = cancel-some c.args.self.now c.args.number c.args.among (c.message_count.ensures.there c.args.number (omega arith)) c.in_ok-mask.mask c.in_ok-mask.ensures c.if-mask-eq0.false
