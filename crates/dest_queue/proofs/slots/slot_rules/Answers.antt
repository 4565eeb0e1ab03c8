use Rattle.dest_queue.proofs.SlotLaws.{state_at-slots_by, waits_at-slots_by, with_state-slots_by, cancelled-slots_by, left-waiting_at}
use Rattle.dest_queue.proofs.slots.slot_rules.Goals as goal

pub returns-clause-state_at : goal.returns-clause-state_at
returns-clause-state_at c = state_at-slots_by

pub returns-clause-waits_at : goal.returns-clause-waits_at
returns-clause-waits_at c = waits_at-slots_by

pub returns-clause-with_state : goal.returns-clause-with_state
returns-clause-with_state c = with_state-slots_by

pub returns-clause-cancelled : goal.returns-clause-cancelled
returns-clause-cancelled c = cancelled-slots_by

pub returns-clause-left : goal.returns-clause-left
returns-clause-left c = left-waiting_at
