-- The steps that a transformer may have.
use Rattle.std.specs.Prelude.{ℕ, Bool, not, ◌&&◌, ◌||◌, ◌==◌, List, Result, Ok, Err, is_ok, if◌then◌else◌}
use Rattle.er7_tree.specs.Path.{Place, is_fixed, same_level}
use Rattle.er7_tree.specs.Tree.{is_name, is_header}
use Rattle.hl7_transform.specs.declared.step_check.StepCheck.{StepCheck}
use Rattle.hl7_transform.specs.declared.step_check.StepCheck.TheVariants.{BadPath, ForbiddenWrite}
use Rattle.hl7_transform.specs.Step.{Edit, set, copy, clear, lookup, remove}

-- MSH-1, MSH-2, and MSH-10, the message control id, with its parts
abbrev pub is_protected : Place → Bool
is_protected p = is_fixed p || (is_header p.segment && p.field == 10)

-- a write to a place
abbrev pub writable : Place → Result (Unit {0}) StepCheck
writable p = if is_protected p then Err ForbiddenWrite else Ok tt

-- a removal of the segments of a name
abbrev pub removable : List ℕ → Result (Unit {0}) StepCheck
removable name = if not (is_name name) then Err BadPath else (if is_header name then Err ForbiddenWrite else Ok tt)

-- a copy from one place to another
abbrev pub copyable : Place → Place → Result (Unit {0}) StepCheck
copyable from to = if is_fixed from || is_fixed to || not (same_level from.part to.part) then Err BadPath else writable to

-- whether a transformer may have a step, or why it may not
abbrev pub check_step : Edit → Result (Unit {0}) StepCheck
check_step (set place text) = writable place
check_step (copy from to) = copyable from to
check_step (clear place) = writable place
check_step (lookup place table default) = writable place
check_step (remove name) = removable name

-- a transformer may have the step
abbrev pub may_stand : Edit → Bool
may_stand step = is_ok (check_step step)
