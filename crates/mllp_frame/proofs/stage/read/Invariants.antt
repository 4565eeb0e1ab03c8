use Rattle.std.proofs.Common.{map, ◌++◌}
use Rattle.mllp_frame.specs.inner.Event.{event_of}
use Rattle.mllp_frame.specs.inner.Stage.{Reads, HoldsShortData, IsQuiet, open_block, work}
use Rattle.mllp_frame.proofs.stage.read.Given as goal

-- what was read, and what is unfinished
abbrev pub invariant-piece : goal.invariant-piece
invariant-piece l = record {
  reads : Reads (map event_of l.fn.events.items) (map event_of l.events.items) (open_block l.fn.start ++ l.fn.piece) (open_block l.stage ++ l.rest);
  short : HoldsShortData l.stage;
  quiet : IsQuiet (open_block l.fn.start) l.fn.piece → IsQuiet (open_block l.stage) l.rest;
}

abbrev pub decreases-piece : goal.decreases-piece
decreases-piece l = work l.stage l.rest
