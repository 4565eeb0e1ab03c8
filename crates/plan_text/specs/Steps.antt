-- The steps of a plan.
use Rattle.std.specs.Prelude.{ℕ, List, [], ◌∷◌, ◌++◌, codes, Bool, false, ◌||◌, is_some, Option, Some, None, Result, Ok, Err, if◌then◌else◌}
use Rattle.std.specs.Option.{option_map_or}
use Rattle.std.specs.Str.{bytes_eq}
use Rattle.toml.specs.Data.{Data, Members, Items, no_items, item, get_member}
use Rattle.hl7_transform.specs.declared.step_check.StepCheck.{StepCheck}
use Rattle.hl7_transform.specs.declared.step_check.StepCheck.TheVariants as check
use Rattle.hl7_transform.specs.Check.{check_step}
use Rattle.hl7_transform.specs.Step.{Edit, set, copy, clear, lookup, remove}
use Rattle.plan_text.specs.declared.fault.PlanFaultKind.{PlanFaultKind}
use Rattle.plan_text.specs.declared.fault.PlanFaultKind.TheVariants as name
use Rattle.plan_text.specs.declared.fault.PlanFault.{PlanFault}
use Rattle.er7_tree.specs.Tree.{◌>>=◌}
use Rattle.plan_text.specs.Fault.{told}
use Rattle.plan_text.specs.Keys.{key, key_path, required, or_else, table_at, only_keys, one_key, list_within, each}
use Rattle.plan_text.specs.Kinds.{in_range, text_as}
use Rattle.plan_text.specs.Conditions.{path, path_in, path_and_text, text_pair}

-- the fault of a step that a transformer may not have
abbrev pub checked_step : Result (Unit {0}) StepCheck → Result (Unit {0}) PlanFaultKind
checked_step (Ok _) = Ok tt
checked_step (Err check.BadPath) = Err name.BadPath
checked_step (Err check.ForbiddenWrite) = Err name.ForbiddenWrite

-- a step that a transformer may have, else its fault at a path
abbrev pub stands_at : List ℕ → Edit → Result (Unit {0}) PlanFault
stands_at at step = told at (checked_step (check_step step))

abbrev pub two_texts : Data → Result (List ℕ × List ℕ) PlanFaultKind
two_texts d = in_range (text_pair d)

-- the lookup text of the pair is this
abbrev pub looks_up : List ℕ → Data → Bool
looks_up text d = option_map_or (λ p. bytes_eq p.0 text) (text_pair d) false

abbrev pub any_looks_up : List ℕ → Items → Bool
any_looks_up text no_items = false
any_looks_up text (item d ds) = looks_up text d || any_looks_up text ds

-- a lookup text occurs twice
abbrev pub has_double : Items → Bool
has_double no_items = false
has_double (item d ds) = option_map_or (λ p. any_looks_up p.0 ds) (text_pair d) false || has_double ds

-- [[from, to], ..] of at most 1,000 pairs, whose members are still to be read
abbrev pub pairs : Data → Result Items PlanFaultKind
pairs d = do
  ds ← list_within 1000 d
  if has_double ds then Err name.DoubleName else Ok ds

abbrev pub pair_at : List ℕ → Data → Result (List ℕ × List ℕ) PlanFault
pair_at at d = told at (two_texts d)

-- a text, of any length
abbrev pub any_text : Data → Result (List ℕ) PlanFaultKind
any_text = text_as Some

abbrev pub default_text : Data → Result (Option (List ℕ)) PlanFaultKind
default_text = text_as (λ s. Some (Some s))

-- lookup = path, table = [[from, to], ..], default = text; a fault of what it writes comes before those of its table
unfoldable pub lookup_at : List ℕ → Members → Result Edit PlanFault
lookup_at at t = do
  place ← key at t (codes "lookup") (required path)
  stands ← stands_at (key_path at (codes "lookup")) (clear place)
  ds ← key at t (codes "table") (required pairs)
  table ← each pair_at (key_path at (codes "table")) ds
  default ← key at t (codes "default") (or_else None default_text)
  Ok (lookup place table default)

abbrev pub step_keys : List (List ℕ)
step_keys = codes "set" ∷ codes "copy" ∷ codes "clear" ∷ codes "lookup" ∷ codes "remove" ∷ []

-- `table` and `default` are known beside `lookup` alone
abbrev pub known_keys : Members → List (List ℕ)
known_keys t = if is_some (get_member (codes "lookup") t) then step_keys ++ codes "table" ∷ codes "default" ∷ [] else step_keys

-- the one first key of a step
unfoldable pub step_key : List ℕ → Members → Result (List ℕ) PlanFault
step_key at t = do
  known ← only_keys (known_keys t) at t
  one_key step_keys at t

-- copy = [from, to]
abbrev pub copy_at : List ℕ → List ℕ → Members → Result Edit PlanFault
copy_at k at t = do
  p ← key at t k (required two_texts)
  from ← told (key_path at k) (path_in p.0)
  to ← told (key_path at k) (path_in p.1)
  Ok (copy from to)

-- set = [path, text]; copy = [from, to]; clear = path; lookup = path; remove = name
unfoldable pub step_by : List ℕ → List ℕ → Members → Result Edit PlanFault
step_by k at t =
    if bytes_eq k (codes "set") then (key at t k (required path_and_text) >>= λ p. Ok (set p.0 p.1))
    else if bytes_eq k (codes "copy") then copy_at k at t
    else if bytes_eq k (codes "clear") then (key at t k (required path) >>= λ p. Ok (clear p))
    else if bytes_eq k (codes "lookup") then lookup_at at t
    else (key at t k (required any_text) >>= λ name. Ok (remove name))

-- a step that a transformer may have
unfoldable pub step : List ℕ → Data → Result Edit PlanFault
step at d = do
  t ← table_at at d
  k ← step_key at t
  s ← step_by k at t
  stands ← stands_at (key_path at k) s
  Ok s

-- at most 256 steps, none where they are left out
unfoldable pub steps_at : List ℕ → Option Data → Result (List Edit) PlanFault
steps_at at None = Ok []
steps_at at (Some d) = told at (list_within 256 d) >>= each step at
