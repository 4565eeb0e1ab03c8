-- What proofs use beside the page Step.
use Rattle.std.specs.Prelude.{◌≡◌, ◌⊎◌, Bool, true, false, not, ◌||◌, List, [], ◌∷◌, is_ok, IsOkAnd}
use Rattle.er7_tree.specs.Edit as edit
use Rattle.er7_tree.specs.Tree.{Tree, ◌>>=◌}
use Rattle.hl7_filter.specs.inner.Condition.{is_unescaped}
use Rattle.hl7_transform.specs.Step.{Edit, change, set, copy, clear, lookup, remove}

-- A step may request memory for the piece that it writes, so only where it can be taken: a clear only for a piece that is
-- there, a removal of segments never. A lookup reads a value first, which is copied only where the piece has an escape character.
abbrev pub wants_memory : Edit → Tree → Bool
wants_memory (set place text) t = is_ok (change (set place text) t)
wants_memory (copy from to) t = is_ok (change (copy from to) t)
wants_memory (clear place) t = edit.has t place
wants_memory (lookup place table default) t = not (is_unescaped t place) || is_ok (change (lookup place table default) t)
wants_memory (remove name) t = false

-- Some step that is reached may request memory: the first, or one of the others, after the first.
abbrev pub SomeWantsMemory : List Edit → Tree → Type 0
SomeWantsMemory [] t = ⊥
SomeWantsMemory (step ∷ steps) t = (wants_memory step t ≡ true) ⊎ IsOkAnd (change step t) (SomeWantsMemory steps)
