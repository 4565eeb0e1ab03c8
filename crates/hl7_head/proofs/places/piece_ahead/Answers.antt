use Rattle.std.proofs.Common.{arith, length}
use Rattle.hl7_head.proofs.Cutting.{reads_next, reads_past}
use Rattle.hl7_head.proofs.places.piece_ahead.Goals as goal

pub returns-in-Some-clause-read : goal.returns-in-Some-clause-read
returns-in-Some-clause-read c =
    let found = rw c.in-Some.is at c.next-place.ensures.place in
    reads_next c.args.text.now c.args.separator c.args.part.start c.args.part.end c.args.ahead.at c.in-Some.end
    (c.requires.here (omega arith)) (omega arith) c.requires.between.within found.0

pub returns-in_default-clause-read : goal.returns-in_default-clause-read
returns-in_default-clause-read c =
    let found = rw c.in-Some.is at c.next-place.ensures.place in
    reads_past c.args.text.now c.args.separator c.args.part.start c.args.part.end c.args.ahead.at c.in-Some.end
    (c.requires.here (omega arith)) c.requires.between.ordered (omega arith) c.requires.between.within found.0.before

pub returns-in_default-2-clause-read : goal.returns-in_default-2-clause-read
returns-in_default-2-clause-read c =
    let none = rw c.in_default.is at c.next-place.ensures.place in
    reads_past c.args.text.now c.args.separator c.args.part.start c.args.part.end c.args.ahead.at (length c.args.text.now)
    (c.requires.here (omega arith)) c.requires.between.ordered c.requires.between.within c.requires.between.within none
