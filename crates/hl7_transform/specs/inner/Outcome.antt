-- What is answered of steps.
use Rattle.std.specs.Prelude.{◌≡◌, true, List, Result, Ok, Err}
use Rattle.er7_tree.specs.declared.refusal.Refusal.{Refusal}
use Rattle.er7_tree.specs.declared.refusal.Refusal.TheVariants as refusal
use Rattle.er7_tree.specs.Tree.{Tree}
use Rattle.hl7_transform.specs.declared.fault.StepFault.{StepFault}
use Rattle.hl7_transform.specs.declared.fault.StepFault.TheVariants as fault
use Rattle.hl7_transform.specs.declared.fault.StopCause.TheVariants.{NoSuchSegment}
use Rattle.hl7_transform.specs.declared.stop.Stop.{Stop}
use Rattle.hl7_transform.specs.declared.stop.Stop.TheVariants as stop
use Rattle.hl7_transform.specs.Step.{Edit, after_steps, change}
use Rattle.hl7_transform.specs.inner.Step.{SomeWantsMemory, wants_memory}

-- why a step stops where an edit is refused
abbrev pub stop_of : Refusal → Stop
stop_of refusal.NoMemory = stop.NoMemory
stop_of _ = stop.Cause NoSuchSegment

-- What a step made of a message: the new message is that of the step, or the cause is its; out of memory is answered
-- only where the step may request memory.
abbrev pub Takes : Edit → Tree → Result (Unit {0}) Stop → Tree → Type 0
Takes step old (Ok _) new = change step old ≡ Ok new
Takes step old (Err (stop.Cause cause)) new = change step old ≡ Err cause
Takes step old (Err stop.NoMemory) new = wants_memory step old ≡ true

-- What was answered of steps on a message is the message after them, or the index and the cause at which they stop; out of
-- memory is answered only where a step that is reached may request memory.
abbrev pub Gives : List Edit → Tree → Result Tree StepFault → Type 0
Gives steps old (Ok new) = after_steps steps old ≡ Ok new
Gives steps old (Err (fault.Stopped place cause)) = after_steps steps old ≡ Err (fault.Stopped place cause)
Gives steps old (Err fault.NoMemory) = SomeWantsMemory steps old
