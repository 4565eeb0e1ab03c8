use Rattle.std.proofs.Common.{◌-◌, ◌≤◌, length}
use Rattle.lane_scan.specs.inner.Scan.{IsNowhere}
use Rattle.mllp_frame.specs.Framing.{start_block, end_block}
use Rattle.delivery_worker.proofs.data.plain_until.Given as goal

abbrev pub invariant-lanes : goal.invariant-lanes
invariant-lanes l = record {
  within : l.at ≤ length l.text;
  no_start : IsNowhere start_block l.text 0 l.at;
  no_end : IsNowhere end_block l.text 0 l.at;
}

abbrev pub decreases-lanes : goal.decreases-lanes
decreases-lanes l = length l.text - l.at
