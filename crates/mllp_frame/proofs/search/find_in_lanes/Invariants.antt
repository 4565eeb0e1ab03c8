use Rattle.std.proofs.Common.{◌-◌, ◌≤◌, length}
use Rattle.memchr.specs.Find.{Nowhere, Passes, is_byte2}
use Rattle.mllp_frame.specs.Framing.{start_block, end_block}
use Rattle.mllp_frame.proofs.search.find_in_lanes.Given as goal

abbrev pub invariant-lanes : goal.invariant-lanes
invariant-lanes l = record {
  within : l.at ≤ length l.piece;
  plain : Nowhere (Passes (is_byte2 start_block end_block) l.piece) 0 l.at;
}

abbrev pub decreases-lanes : goal.decreases-lanes
decreases-lanes l = length l.piece - l.at
