-- The keys of a table, and the members of a list.
use Rattle.std.specs.Prelude.{ℕ, ◌+◌, List, [], ◌∷◌, ◌++◌, length, codes, Bool, not, ◌==◌, nat_le, filter, is_some, if◌then◌else◌, Option, Some, None, Result, Ok, Err}
use Rattle.std.specs.Cmp.Lexicographic.{slice_cmp}
use Rattle.std.specs.Fmt.{decimal}
use Rattle.std.specs.List.{list_any}
use Rattle.std.specs.Ordering.{is_lt, nat_cmp}
use Rattle.std.specs.Str.{bytes_eq}
use Rattle.toml.specs.Data.{Data, array, table, Items, no_items, item, Members, no_members, member, get_member}
use Rattle.plan_text.specs.declared.fault.PlanFaultKind.{PlanFaultKind}
use Rattle.plan_text.specs.declared.fault.PlanFaultKind.TheVariants as name
use Rattle.plan_text.specs.declared.fault.PlanFault.{PlanFault}
use Rattle.er7_tree.specs.Tree.{◌>>=◌}
use Rattle.plan_text.specs.Fault.{fault_at, told}

-- the path to a key of the table at a path
abbrev pub key_path : List ℕ → List ℕ → List ℕ
key_path at key = if length at == 0 then key else at ++ (codes "." ++ key)

-- the path to a member of the list at a path
abbrev pub member_path : List ℕ → ℕ → List ℕ
member_path at n = at ++ (codes "[" ++ (decimal n ++ codes "]"))

-- a table
abbrev pub table_at : List ℕ → Data → Result Members PlanFault
table_at at (table t) = Ok t
table_at at _ = Err (fault_at name.BadRange at)

abbrev pub keys_of : Members → List (List ℕ)
keys_of no_members = []
keys_of (member k d ms) = k ∷ keys_of ms

-- the lesser of a key and another, if there is one, by their bytes
abbrev pub lesser : List ℕ → Option (List ℕ) → List ℕ
lesser k None = k
lesser k (Some l) = if is_lt (slice_cmp nat_cmp k l) then k else l

abbrev pub least : List (List ℕ) → Option (List ℕ)
least [] = None
least (k ∷ ks) = Some (lesser k (least ks))

-- the key is one of these
abbrev pub is_among : List (List ℕ) → List ℕ → Bool
is_among keys k = list_any (λ l. bytes_eq l k) keys

-- the least key of a table, by its bytes, that isn't known
abbrev pub unknown_key : (List ℕ → Bool) → Members → Option (List ℕ)
unknown_key is_known t = least (filter (λ k. not (is_known k)) (keys_of t))

-- a key that isn't known is a fault at that key
abbrev pub no_key : List ℕ → Option (List ℕ) → Result (Unit {0}) PlanFault
no_key at None = Ok tt
no_key at (Some k) = Err (fault_at name.UnknownKey (key_path at k))

abbrev pub only_keys : List (List ℕ) → List ℕ → Members → Result (Unit {0}) PlanFault
only_keys keys at t = no_key at (unknown_key (is_among keys) t)

-- the only one of these
abbrev pub only_one : List ℕ → List (List ℕ) → Result (List ℕ) PlanFault
only_one at [] = Err (fault_at name.Missing at)
only_one at (k ∷ []) = Ok k
only_one at (k ∷ l ∷ ks) = Err (fault_at name.BadRange at)

-- the one key that a table has of these
abbrev pub one_key : List (List ℕ) → List ℕ → Members → Result (List ℕ) PlanFault
one_key keys at t = only_one at (filter (λ k. is_some (get_member k t)) keys)

-- what is read at a key of the table t at a path
abbrev pub key : {A : Type 0} → List ℕ → Members → List ℕ → (Option Data → Result A PlanFaultKind) → Result A PlanFault
key at t k read = told (key_path at k) (read (get_member k t))

-- a value that has to be there
abbrev pub required : {A : Type 0} → (Data → Result A PlanFaultKind) → Option Data → Result A PlanFaultKind
required read None = Err name.Missing
required read (Some d) = read d

-- a value that may be left out
abbrev pub or_else : {A : Type 0} → A → (Data → Result A PlanFaultKind) → Option Data → Result A PlanFaultKind
or_else default read None = Ok default
or_else default read (Some d) = read d

abbrev pub item_count : Items → ℕ
item_count no_items = 0
item_count (item d ds) = item_count ds + 1

-- a list
abbrev pub list : Data → Result Items PlanFaultKind
list (array ds) = Ok ds
list _ = Err name.BadRange

-- a list of at most n members
abbrev pub list_within : ℕ → Data → Result Items PlanFaultKind
list_within most (array ds) = if nat_le (item_count ds) most then Ok ds else Err name.TooMany
list_within most _ = Err name.BadRange

-- the members of the list at a path, each read with those before it
abbrev pub each_after : {A : Type 0} → (List A → List ℕ → Data → Result A PlanFault)
    → List ℕ → List A → Items → Result (List A) PlanFault
each_after read at before no_items = Ok before
each_after read at before (item d ds) = read before (member_path at (length before)) d >>= λ x. each_after read at (before ++ x ∷ []) ds

-- the members of the list at a path
abbrev pub each : {A : Type 0} → (List ℕ → Data → Result A PlanFault) → List ℕ → Items → Result (List A) PlanFault
each read at = each_after (λ before. read) at []
