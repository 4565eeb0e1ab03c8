use Rattle.std.proofs.Common.{◌≡◌, arith}
use Rattle.hl7_head.proofs.Cutting.{reads_to, reads_whole}
use Rattle.hl7_head.proofs.places.first_piece.Goals as goal

pub returns-else-text-end : goal.returns-else-text-end
returns-else-text-end c =
    let read = c.loop-end.invariant in
    reads_to c.args.text.now c.args.separator c.args.part.start c.args.part.end c.loop-end.end read.behind c.loop-end-test.true c.requires.within c.if-text-end.false read.other

pub returns-after-loop-end : goal.returns-after-loop-end
returns-after-loop-end c =
    let read = c.loop-end.invariant in
    let last : c.loop-end.end ≡ c.args.part.end = omega (arith, read.within, c.loop-end-test.false) in
    rw last (reads_whole c.args.text.now c.args.separator c.args.part.start c.args.part.end c.requires.ordered c.requires.within (λ k low high. read.other k low (omega (arith, last))))
