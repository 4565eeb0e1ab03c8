use Rattle.std.proofs.Common.{◌≡◌, ◌≤◌, ◌-◌, take, map, length}
use Rattle.std.specs.List.{filter}
use Rattle.er7_tree.specs.inner.Spans.{covered}
use Rattle.er7_tree.specs.Tree.{has_name}
use Rattle.er7_tree.proofs.message.find_place.Given as goal

abbrev pub invariant-loop-place : goal.invariant-loop-place
invariant-loop-place l = record {
  counted : l.before ≡ length (filter (has_name l.name) (take l.place (map (covered l.text) l.spans)));
  below : l.before ≤ l.n - 1;
  fewer : l.before ≤ l.place;
}
