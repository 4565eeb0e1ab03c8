use Rattle.std.proofs.Common.{sym, ◌∙◌, arith}
use Rattle.er7_tree.proofs.Segmenting.{segment_from, segment-some, near-behind, near-end}
use Rattle.er7_tree.proofs.segments.next_span.Goals as goal

pub next_end-end-requires-clause-behind : goal.next_end-end-requires-clause-behind
next_end-end-requires-clause-behind c =
    let first = c.skip_empty-start.ensures in
    near-behind c.args.text.now c.args.from c.skip_empty-start.result c.args.ends.now.at c.requires.near first.behind (omega arith) (first.some (omega arith))

pub returns-clause-segment : goal.returns-clause-segment
returns-clause-segment c =
    let first = c.skip_empty-start.ensures in
    let stop = c.next_end-end.ensures in
    sym first.same ∙ segment_from c.args.text.now c.skip_empty-start.result c.next_end-end.result.1 (omega arith) (first.some (omega arith)) stop.behind stop.within stop.other stop.here

pub returns-clause-some : goal.returns-clause-some
returns-clause-some c =
    let first = c.skip_empty-start.ensures in
    let stop = c.next_end-end.ensures in
    segment-some c.args.text.now c.skip_empty-start.result c.next_end-end.result.1 (omega arith) (first.some (omega arith)) stop.behind stop.here

pub returns-clause-near : goal.returns-clause-near
returns-clause-near c =
    let stop = c.next_end-end.ensures in
    near-end c.args.text.now c.next_end-end.result.1 c.next_end-end.result.0.at c.next_end-end.result.0.end c.next_end-end.result.0.bits stop.ends stop.within stop.here stop.ahead
