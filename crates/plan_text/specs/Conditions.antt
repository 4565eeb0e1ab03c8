-- The conditions of a plan.
use Rattle.std.specs.Prelude.{ℕ, zero, suc, List, [], ◌∷◌, codes, nat_le, Option, Some, None, option_map, option_and_then, Result, Ok, Err, if◌then◌else◌}
use Rattle.std.specs.Str.{bytes_eq}
use Rattle.toml.specs.Data.{Data, string, array, Members, Items, no_items, item, as_str, as_array}
use Rattle.er7_tree.specs.Path.{Place, path_of}
use Rattle.hl7_filter.specs.Condition.{Condition, equals, one_of, exists, starts, contains, all, any, negated}
use Rattle.hl7_filter.specs.View.{conditions_of}
use Rattle.plan_text.specs.declared.fault.PlanFaultKind.{PlanFaultKind}
use Rattle.plan_text.specs.declared.fault.PlanFaultKind.TheVariants as name
use Rattle.plan_text.specs.declared.fault.PlanFault.{PlanFault}
use Rattle.er7_tree.specs.Tree.{◌>>=◌}
use Rattle.plan_text.specs.Fault.{fault_at}
use Rattle.plan_text.specs.Keys.{key, key_path, required, table_at, only_keys, one_key, list_within, item_count, each}
use Rattle.plan_text.specs.Kinds.{in_range}

-- what a path names
abbrev pub path_by : Option Place → Result Place PlanFaultKind
path_by None = Err name.BadPath
path_by (Some place) = Ok place

abbrev pub path_in : List ℕ → Result Place PlanFaultKind
path_in text = path_by (path_of text)

-- path
abbrev pub path : Data → Result Place PlanFaultKind
path (string text) = path_in text
path _ = Err name.BadRange

-- the two members of a list of two
abbrev pub pair_of : Data → Option (Data × Data)
pair_of (array (item a (item b no_items))) = Some (a, b)
pair_of _ = None

-- the members of a list of texts
abbrev pub all_texts : Items → Option (List (List ℕ))
all_texts no_items = Some []
all_texts (item d ds) = option_and_then (λ s. option_map (λ ss. s ∷ ss) (all_texts ds)) (as_str d)

-- two texts
abbrev pub text_pair : Data → Option (List ℕ × List ℕ)
text_pair d = option_and_then (λ p. option_and_then (λ a. option_map (λ b. (a, b)) (as_str p.1)) (as_str p.0)) (pair_of d)

-- a text and a list
abbrev pub text_and_list : Data → Option (List ℕ × Items)
text_and_list d = option_and_then (λ p. option_and_then (λ a. option_map (λ b. (a, b)) (as_array p.1)) (as_str p.0)) (pair_of d)

-- [path, text]
abbrev pub path_and_text : Data → Result (Place × List ℕ) PlanFaultKind
path_and_text d = do
  p ← in_range (text_pair d)
  path ← path_in p.0
  Ok (path, p.1)

abbrev pub at_most : ℕ → Items → Result (Unit {0}) PlanFaultKind
at_most most ds = if nat_le (item_count ds) most then Ok tt else Err name.TooMany

-- [path, [text, ..]]
abbrev pub path_and_texts : Data → Result (Place × List (List ℕ)) PlanFaultKind
path_and_texts d = do
  p ← in_range (text_and_list d)
  texts ← in_range (all_texts p.1)
  few ← at_most 256 p.1
  path ← path_in p.0
  Ok (path, texts)

abbrev pub condition_keys : List (List ℕ)
condition_keys = codes "equals" ∷ codes "one_of" ∷ codes "exists" ∷ codes "starts" ∷ codes "contains" ∷ codes "all" ∷ codes "any" ∷ codes "not" ∷ []

-- a condition on one piece of a message, by its key
unfoldable pub on_piece : List ℕ → Members → List ℕ → Result Condition PlanFault
on_piece at t k =
    if bytes_eq k (codes "one_of") then (key at t k (required path_and_texts) >>= λ p. Ok (one_of p.0 p.1))
    else if bytes_eq k (codes "exists") then (key at t k (required path) >>= λ p. Ok (exists p))
    else if bytes_eq k (codes "equals") then (key at t k (required path_and_text) >>= λ p. Ok (equals p.0 p.1))
    else if bytes_eq k (codes "starts") then (key at t k (required path_and_text) >>= λ p. Ok (starts p.0 p.1))
    else (key at t k (required path_and_text) >>= λ p. Ok (contains p.0 p.1))

-- a condition by its key, where `inner` reads those inside
unfoldable pub by_key : (List ℕ → Data → Result Condition PlanFault) → List ℕ → Members → List ℕ → Result Condition PlanFault
by_key inner at t k =
    let many = key at t k (required (list_within 256)) >>= each inner (key_path at k) in
    if bytes_eq k (codes "all") then (many >>= λ cs. Ok (all (conditions_of cs)))
    else if bytes_eq k (codes "any") then (many >>= λ cs. Ok (any (conditions_of cs)))
    else if bytes_eq k (codes "not") then (key at t k (required Ok) >>= inner (key_path at k) >>= λ c. Ok (negated c))
    else on_piece at t k

-- the one key of a condition
unfoldable pub condition_key : List ℕ → Members → Result (List ℕ) PlanFault
condition_key at t = do
  known ← only_keys condition_keys at t
  one_key condition_keys at t

-- a table with exactly one of the keys
unfoldable pub with_one_key : List ℕ → Data → (Members → List ℕ → Result Condition PlanFault) → Result Condition PlanFault
with_one_key at d read = do
  t ← table_at at d
  k ← condition_key at t
  read t k

-- a condition of at most n levels
unfoldable pub condition : ℕ → List ℕ → Data → Result Condition PlanFault
condition zero at d = with_one_key at d (λ t k. Err (fault_at name.TooMany at))
condition (suc levels) at d = with_one_key at d (by_key (condition levels) at)

-- a condition that may be left out
unfoldable pub filter_at : List ℕ → Option Data → Result (Option Condition) PlanFault
filter_at at None = Ok None
filter_at at (Some d) = condition 16 at d >>= λ c. Ok (Some c)
