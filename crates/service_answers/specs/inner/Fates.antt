-- What became of a message.
use Rattle.std.specs.Prelude.{ℕ, Bool, true, false, if◌then◌else◌, List, Option, None, Some}
use Rattle.std.specs.List.{list_any}
use Rattle.dest_queue.specs.declared.SlotState.{SlotState}
use Rattle.dest_queue.specs.declared.SlotState.TheVariants.{Waiting, InFlight, Delivered, Failed}
use Rattle.service_answers.specs.declared.noted.Fate.{Fate}
use Rattle.service_answers.specs.declared.noted.Fate.TheVariants as fate

-- it waits at the destination, or is in flight there
abbrev pub is_live : Option SlotState → Bool
is_live (Some (Waiting attempts due)) = true
is_live (Some (InFlight attempt)) = true
is_live _ = false

-- it failed at the destination
abbrev pub has_failed : Option SlotState → Bool
has_failed (Some (Failed cause)) = true
has_failed _ = false

-- it is still to be delivered somewhere; or it failed somewhere; or it was delivered wherever it goes
abbrev pub fate_of : List (Option SlotState) → Fate
fate_of states = if list_any is_live states then fate.Waiting else (if list_any has_failed states then fate.Failed else fate.Delivered)
