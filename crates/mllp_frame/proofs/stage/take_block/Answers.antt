use Rattle.std.proofs.Common.{◌<◌, length, map, arith, length-take}
use Rattle.std.proofs.lemmas.List.{map-append}
use Rattle.mllp_frame.specs.Framing.{start_block}
use Rattle.mllp_frame.specs.inner.Event.{event_of}
use Rattle.mllp_frame.proofs.Steps.{behind, first_of, taken_block}
use Rattle.mllp_frame.proofs.stage.take_block.Goals as goal

pub returns-clause-reads : goal.returns-clause-reads
returns-clause-reads c =
    let old = map event_of c.args.events.now.items in
    let piece = c.args.piece.now in
    let found = c.in-Some.ensures in
    let some : 0 < length piece = omega arith in
    let front = first_of old piece start_block some c.if-piece-ne-START_BLOCK.false in
    rw (c.push_back_reserved.ensures.items, c.in_ok-reserve.ensures.items, map-append, c.in_ok-bytes.ensures.items)
    (taken_block old piece (behind piece 1) c.in-Some.at front found.0 (omega (arith, length-take c.in-Some.at (behind piece 1), c.if-at-gt-DATA_MAX.false)) (omega (arith, c.if-at-data.false)) c.if-data-at-ne-END_BLOCK.false c.if-data-at-ne-CARRIAGE_RETURN.false)
