-- What steps leave as it is.
use Rattle.std.specs.Prelude.{◌≡◌, Bool, true, false, ◌&&◌, Option, Some, None}
use Rattle.std.specs.Option.{IsSomeAnd}
use Rattle.er7_tree.specs.Edit.{has_segment}
use Rattle.er7_tree.specs.Path.{Place, raw, is_path}
use Rattle.er7_tree.specs.Tree.{Tree}
use Rattle.er7_tree.specs.inner.Tree.{IsMessage}
use Rattle.hl7_transform.specs.Check.{is_protected}
use Rattle.hl7_transform.specs.Step.{Edit, set, copy, clear, lookup, remove}

-- the places that a step names are those of paths
abbrev pub names_paths : Edit → Bool
names_paths (set place text) = is_path place
names_paths (copy from to) = is_path from && is_path to
names_paths (clear place) = is_path place
names_paths (lookup place table default) = is_path place
names_paths (remove name) = true

-- The new tree is a message too, and each piece that is protected is as it was.
pub record KeepsProtected (old new : Tree) : Type 0 where
  pub message : IsMessage new
  pub pieces : (place : Place) → is_path place ≡ true → is_protected place ≡ true → raw new place ≡ raw old place

-- where a step writes, and needs a segment to write to
abbrev pub written_to : Edit → Option Place
written_to (set place text) = Some place
written_to (copy from to) = Some to
written_to (clear place) = None
written_to (lookup place table default) = Some place
written_to (remove name) = None

-- The segment that a step writes to isn't there.
abbrev pub LacksSegment : Edit → Tree → Type 0
LacksSegment step t = IsSomeAnd (written_to step) (λ place. has_segment t place ≡ false)
