-- What the slots of remembered arrivals owe.
use Rattle.std.specs.Prelude.{ℕ, List, sum_by}
use Rattle.std.specs.List.{range_with_len}
use Rattle.std.specs.Option.{option_map_or}
use Rattle.plan_text.specs.Entries.{PlanEntry}
use Rattle.dest_queue.specs.declared.slots.Slot.{Slot}
use Rattle.dest_queue.specs.Slots.{state_at}
use Rattle.event_log.specs.Answers.{attempts_max}
use Rattle.event_log.specs.History.{Remembered}
use Rattle.event_log.specs.Room.{slot_owed}

-- the entries that may still follow from the slot at d, if there is one
abbrev pub owed_at : PlanEntry → List Slot → ℕ → ℕ
owed_at plan slots d = option_map_or (slot_owed (attempts_max plan d)) (state_at d slots) 0

-- those of all slots of a message, which are at 32 destinations at most
unfoldable pub message_owed : PlanEntry → List Slot → ℕ
message_owed plan slots = sum_by (owed_at plan slots) (range_with_len 0 32)

-- those of all arrivals
abbrev pub remembered_owed : PlanEntry → List Remembered → ℕ
remembered_owed plan arrivals = sum_by (λ r. message_owed plan r.slots) arrivals
