use Rattle.std.proofs.Common.{map}
use Rattle.std.proofs.lemmas.List.{map-append}
use Rattle.mllp_frame.specs.inner.Event.{event_of}
use Rattle.mllp_frame.proofs.Steps.{whole_block, bad_end}
use Rattle.mllp_frame.proofs.stage.read_ended.Goals as goal

pub returns-then-piece-ne-CARRIAGE_RETURN-clause-reads : goal.returns-then-piece-ne-CARRIAGE_RETURN-clause-reads
returns-then-piece-ne-CARRIAGE_RETURN-clause-reads c =
    rw (c.push_back_reserved.ensures.items, c.in_ok-reserve.ensures.items, map-append)
    (bad_end (map event_of c.args.events.now.items) c.args.piece.now c.args.bytes.items c.requires.short c.requires.some c.if-piece-ne-CARRIAGE_RETURN.true)

pub returns-clause-reads : goal.returns-clause-reads
returns-clause-reads c =
    rw (c.push_back_reserved-2.ensures.items, c.in_ok-reserve.ensures.items, map-append, c.closed.ensures)
    (whole_block (map event_of c.args.events.now.items) c.args.piece.now c.args.bytes.items c.requires.short c.requires.some c.if-piece-ne-CARRIAGE_RETURN.false)
