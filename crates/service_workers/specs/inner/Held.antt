-- The destinations that an operator holds.
use Rattle.std.specs.Prelude.{ℕ, List, String, string_bytes, Bool, false, filter, map, not, slice_get}
use Rattle.std.specs.List.{list_any}
use Rattle.std.specs.Option.{option_map_or}
use Rattle.std.specs.Str.{bytes_eq}
use Rattle.plan_text.specs.Entries.{PlanEntry}

-- the names, each as its bytes
abbrev pub names_of : {Z : Type 0} → List (String Z) → List (List ℕ)
names_of names = map string_bytes names

-- one of these is this name
abbrev pub is_named : {Z : Type 0} → List (String Z) → List ℕ → Bool
is_named names name = list_any (λ held. bytes_eq (string_bytes held) name) names

-- these without this name
abbrev pub without : {Z : Type 0} → List ℕ → List (String Z) → List (String Z)
without name names = filter (λ held. not (bytes_eq (string_bytes held) name)) names

-- the destination at this index of the plan has one of these names
abbrev pub is_held_at : {Z : Type 0} → List (String Z) → PlanEntry → ℕ → Bool
is_held_at names p d = option_map_or (λ e. is_named names e.name) (slice_get p.destinations d) false
