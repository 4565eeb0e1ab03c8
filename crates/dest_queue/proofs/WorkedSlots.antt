-- Slots written out: three attempts are allowed, and ten seconds lie between two.
use Rattle.std.proofs.Common.{◌≡◌, ℕ, [], ◌∷◌, None, Some, Ok, Err, refl}
use Rattle.row_store.specs.declared.Row.{Row}
use Rattle.dest_queue.specs.declared.slots.Queued.{Queued}
use Rattle.dest_queue.specs.declared.SlotState.TheVariants.{Waiting, InFlight, Failed}
use Rattle.dest_queue.specs.declared.FailCause.TheVariants.{Exhausted, Cancelled}
use Rattle.dest_queue.specs.declared.Outcome.TheVariants.{Delivered, Again}
use Rattle.dest_queue.specs.declared.SettleRefusal.TheVariants.{NotInFlight, NoSlot}
use Rattle.dest_queue.specs.States.{slot_answer}
use Rattle.dest_queue.specs.Slots.{state_at}
use Rattle.dest_queue.specs.inner.Queues.{cancel, waiting_at}
use Rattle.dest_queue.specs.inner.Slots.{everywhere, has_bit}

-- a retry waits, and none follows the third attempt
first_retry : slot_answer (Some (InFlight 1)) Again 1 100 3 10 ≡ Ok (Waiting 1 110)
first_retry = refl

second_retry : slot_answer (Some (InFlight 2)) Again 2 111 3 10 ≡ Ok (Waiting 2 121)
second_retry = refl

no_third_retry : slot_answer (Some (InFlight 3)) Again 3 121 3 10 ≡ Ok (Failed Exhausted)
no_third_retry = refl

-- another attempt, a cancelled slot, and no slot
other_attempt : slot_answer (Some (InFlight 1)) Delivered 2 0 3 10 ≡ Err (NotInFlight (InFlight 1))
other_attempt = refl

cancelled_slot : slot_answer (Some (Failed Cancelled)) Delivered 1 0 3 10 ≡ Err (NotInFlight (Failed Cancelled))
cancelled_slot = refl

no_slot : slot_answer None Delivered 1 0 3 10 ≡ Err NoSlot
no_slot = refl

-- a message in flight at 1 that waits at 2 and 3
abbrev at_three : Row (Queued ℕ)
at_three = record { number = 0; item = record { content = 70; slots = record { destination = 1; state = InFlight 1 } ∷ (record { destination = 2; state = Waiting 0 0 } ∷ (record { destination = 3; state = Waiting 0 0 } ∷ [])) }; mask = 14 }

-- cancelled it stands in queue 1 alone
cancelled_mask : (cancel everywhere at_three).mask ≡ 2
unfolding waiting_at
cancelled_mask = refl

cancelled_at_2 : state_at 2 (cancel everywhere at_three).item.slots ≡ Some (Failed Cancelled)
cancelled_at_2 = refl

still_in_flight : state_at 1 (cancel everywhere at_three).item.slots ≡ Some (InFlight 1)
still_in_flight = refl

-- among destination 2 alone: it stands in queues 1 and 3, and waits at 3
cancelled_at_one : (cancel (has_bit 4) at_three).mask ≡ 10
unfolding waiting_at
cancelled_at_one = refl

only_at_2 : state_at 2 (cancel (has_bit 4) at_three).item.slots ≡ Some (Failed Cancelled)
only_at_2 = refl

waits_at_3 : state_at 3 (cancel (has_bit 4) at_three).item.slots ≡ Some (Waiting 0 0)
waits_at_3 = refl

-- among destinations where it is in flight, or that it doesn't name, it stays
cancelled_nowhere : cancel (has_bit 19) at_three ≡ at_three
unfolding waiting_at
cancelled_nowhere = refl
