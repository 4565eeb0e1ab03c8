-- The steps of a transformer, and the message after them.
use Rattle.std.specs.Prelude.{ℕ, ◌+◌, List, [], ◌∷◌, Option, option_map, find, Result, Ok, Err}
use Rattle.std.specs.Option.{ok_or, option_or}
use Rattle.std.specs.Result.{result_map_both}
use Rattle.std.specs.Str.{bytes_eq}
use Rattle.er7_tree.specs.declared.refusal.Refusal.{Refusal}
use Rattle.er7_tree.specs.Edit as edit
use Rattle.er7_tree.specs.Path.{Place, value}
use Rattle.er7_tree.specs.Tree.{Tree, ◌>>=◌}
use Rattle.hl7_transform.specs.declared.fault.StepFault.{StepFault}
use Rattle.hl7_transform.specs.declared.fault.StepFault.TheVariants.{Stopped}
use Rattle.hl7_transform.specs.declared.fault.StopCause.{StopCause}
use Rattle.hl7_transform.specs.declared.fault.StopCause.TheVariants.{NoSuchSegment, NotInTable}

-- what a step does: it sets the piece at a place to a text, copies a piece to a place of its level, clears a piece,
-- looks the value of a piece up in a table of pairs with or without a default, or removes the segments of a name
pub data Edit : Type 0 where
  set : Place → List ℕ → Edit
  copy : Place → Place → Edit
  clear : Place → Edit
  lookup : Place → List (List ℕ × List ℕ) → Option (List ℕ) → Edit
  remove : List ℕ → Edit
  deriving Discrete as Edit-discrete

-- the partner of a value, that of the first pair that has it, else the default
abbrev pub partner : List (List ℕ × List ℕ) → Option (List ℕ) → List ℕ → Option (List ℕ)
partner table default value = option_or (option_map (λ pair. pair.1) (find (λ pair. bytes_eq pair.0 value) table)) default

-- an edit that a step makes; where a transformer may have the step, it is refused only where there is no segment to
-- write to
abbrev pub made : Result Tree Refusal → Result Tree StopCause
made edited = result_map_both (λ t. t) (λ _. NoSuchSegment) edited

-- the message after a step, or why the step can't be taken
abbrev pub change : Edit → Tree → Result Tree StopCause
change (set place text) t = made (edit.set t place text)
change (copy from to) t = made (edit.copy t from to)
change (clear place) t = made (edit.clear t place)
change (lookup place table default) t = ok_or (partner table default (value t place)) NotInTable >>= λ text. made (edit.set t place text)
change (remove name) t = made (edit.remove_segments t name)

-- a step at an index among the steps
abbrev pub changed_at : ℕ → Edit → Tree → Result Tree StepFault
changed_at place step t = result_map_both (λ t. t) (λ cause. Stopped place cause) (change step t)

-- the message after steps, of which the first has this index
abbrev pub after_from : ℕ → List Edit → Tree → Result Tree StepFault
after_from place [] t = Ok t
after_from place (step ∷ steps) t = changed_at place step t >>= after_from (place + 1) steps

-- The message after steps, each of which sees the result of the one before, or the index, from 0, and the cause at
-- which they stop.
abbrev pub after_steps : List Edit → Tree → Result Tree StepFault
after_steps steps t = after_from 0 steps t
