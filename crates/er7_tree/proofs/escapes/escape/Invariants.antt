use Rattle.std.proofs.Common.{◌≡◌, ◌++◌, length}
use Rattle.er7_tree.specs.Escape.{escape}
use Rattle.er7_tree.proofs.escapes.escape.Given as goal

abbrev pub invariant-loop-at : goal.invariant-loop-at
invariant-loop-at l = l.out.items ++ escape l.delims l.rest ≡ escape l.delims l.value

abbrev pub decreases-loop-at : goal.decreases-loop-at
decreases-loop-at l = length l.rest
