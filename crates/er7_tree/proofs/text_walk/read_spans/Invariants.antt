use Rattle.std.proofs.Common.{◌≡◌, ◌+◌, ◌-◌, ◌≤◌, true, ◌++◌, length, drop, map}
use Rattle.std.specs.Option.{option_or}
use Rattle.lane_scan.specs.inner.Scan.{AreAhead}
use Rattle.er7_tree.specs.inner.Spans.{covered, InOrder, IsNear}
use Rattle.er7_tree.specs.Tree.{segments_of, bad_name_place}
use Rattle.er7_tree.proofs.text_walk.read_spans.Given as goal

abbrev pub invariant-loop-span : goal.invariant-loop-span
invariant-loop-span l = record {
  within : l.at ≤ length l.text;
  counted : l.place + length (segments_of (drop l.at l.text)) ≡ length (segments_of l.text);
  few : l.place ≤ 4096;
  named : option_or l.bad (bad_name_place (l.place + 1) l.delims (segments_of (drop l.at l.text))) ≡ bad_name_place 2 l.delims (drop 1 (segments_of l.text));
  cut : l.kept ≡ true → map (covered l.text) l.spans.items ++ segments_of (drop l.at l.text) ≡ segments_of l.text;
  ends : AreAhead 13 l.text l.ends.at l.ends.end l.ends.bits;
  near : IsNear l.text l.at l.ends.at;
  in_order : l.kept ≡ true → InOrder 0 l.at l.spans.items;
}

abbrev pub decreases-loop-span : goal.decreases-loop-span
decreases-loop-span l = length l.text - l.at
