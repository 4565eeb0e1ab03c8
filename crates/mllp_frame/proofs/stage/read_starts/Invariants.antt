use Rattle.std.proofs.Common.{map, ◌++◌, ◌≤◌, length}
use Rattle.mllp_frame.specs.inner.Event.{event_of}
use Rattle.mllp_frame.specs.inner.Framing.{begun_block}
use Rattle.mllp_frame.specs.inner.Stage.{Reads, IsShortData}
use Rattle.mllp_frame.proofs.stage.read_starts.Given as goal

-- what was read, and the block that is open
abbrev pub invariant-starts : goal.invariant-starts
invariant-starts l = record {
  reads : Reads (map event_of l.fn.events.items) (map event_of l.events.items) (begun_block l.fn.bytes.items ++ l.fn.piece) (begun_block l.bytes.items ++ l.rest);
  short : IsShortData l.bytes.items;
  nearer : length l.rest ≤ length l.fn.piece;
}

abbrev pub decreases-starts : goal.decreases-starts
decreases-starts l = length l.rest
