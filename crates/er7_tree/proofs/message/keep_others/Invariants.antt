use Rattle.std.proofs.Common.{◌≡◌, ◌≤◌, take, drop, not}
use Rattle.std.specs.List.{filter}
use Rattle.er7_tree.specs.inner.Spans.{covered}
use Rattle.er7_tree.specs.Tree.{has_name}
use Rattle.er7_tree.proofs.message.keep_others.Given as goal

abbrev pub invariant-loop-place : goal.invariant-loop-place
invariant-loop-place l = record {
  behind : l.kept ≤ l.place;
  kept : take l.kept l.spans ≡ filter (λ span. not (has_name l.name (covered l.text span))) (take l.place l.initial.spans);
  left : drop l.place l.spans ≡ drop l.place l.initial.spans;
}
