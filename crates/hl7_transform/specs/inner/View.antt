-- What a `Step` does.
use Rattle.std.specs.Prelude.{◌≡◌, ℕ, Bool, List, map}
use Rattle.std.specs.Bool.{Decides}
use Rattle.std.specs.Cmp.{IsPartialEquivalence, IsEquivalence}
use Rattle.hl7_filter.specs.inner.ByView.{by_view_laws, by_view_equiv}
use Rattle.hl7_transform.specs.declared.step.Pair.{Pair}
use Rattle.hl7_transform.specs.declared.step.Step.{Step}
use Rattle.hl7_transform.specs.declared.step.Step.TheVariants.{Set, Copy, Clear, Lookup, RemoveSegments}
use Rattle.hl7_transform.specs.inner.Same.{same_edit, same_edit-Decides}
use Rattle.hl7_transform.specs.Step.{Edit, set, copy, clear, lookup, remove}

-- the pairs that a lookup table says
abbrev pub table_view : List Pair → List (List ℕ × List ℕ)
table_view table = map (λ pair. (pair.from, pair.to)) table

-- what a step does
abbrev pub view : Step → Edit
view (Set path text) = set path text
view (Copy from to) = copy from to
view (Clear path) = clear path
view (Lookup path table default) = lookup path (table_view table.items) default
view (RemoveSegments name) = remove name

-- what steps do
abbrev pub steps_view : List Step → List Edit
steps_view steps = map view steps

-- two steps are the same
abbrev pub same : Step → Step → Bool
same x y = same_edit (view x) (view y)

-- which is so exactly where what they do is one
pub same-Decides : (x y : Step) → Decides (same x y) (view x ≡ view y)
same-Decides x y = same_edit-Decides (view x) (view y)

-- the laws of `==`
pub same_laws : IsPartialEquivalence same
same_laws = by_view_laws view same same-Decides

pub same_equiv : IsEquivalence same
same_equiv = by_view_equiv view same same-Decides
