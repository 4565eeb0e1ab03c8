-- The answers, by what they depend on.
use Rattle.std.proofs.Common.{◌≡◌, ℕ, ◌≤◌, Bool, true, false, cond, List, nat_lt, ◌+◌, Option, None, Some, Ok, Err, refl, sym, ◌∙◌, ap, arith}
use Rattle.std.specs.Prelude.{IfSome, slice_get}
use Rattle.std.specs.Option.{option_map_or}
use Rattle.plan_text.specs.Entries.{DestinationEntry, IsDestination, IsPlan, PlanEntry}
use Rattle.judge_core.specs.Judging.{is_bookable, key_of, verdict as decided}
use Rattle.dest_queue.specs.declared.SlotState.{SlotState}
use Rattle.dest_queue.specs.declared.SlotState.TheVariants.{Waiting, InFlight, Delivered, Failed}
use Rattle.event_log.specs.declared.entry.Ticket.{Ticket}
use Rattle.event_log.specs.declared.entry.Told.{Told}
use Rattle.event_log.specs.declared.refusal.TakeRefusal.TheVariants.{Idle, NotDue}
use Rattle.event_log.specs.History.{History, message_count, plan_in_force, queue, slot}
use Rattle.event_log.specs.Answers.{arrival_answer, attempts_max, front_answer, known, take_answer, told_again, told_by}
use Rattle.event_log.specs.inner.Legal.{IsSound, IsWithin}
use Rattle.event_log.specs.Room.{is_over_limit, is_full, committed_by_new, slots_added}
use Rattle.sequential_book.proofs.Messages.{found-holds}

-- a message whose key is known is told so
pub answer-known : (h : History) (channel : ℕ) (raw : List ℕ) (place : ℕ) → is_bookable raw ≡ true → known h (key_of channel raw) ≡ Some place → arrival_answer h channel raw ≡ Some (told_again h raw place)
unfolding arrival_answer
answer-known h channel raw place bookable found = rw (bookable, found) refl

-- another is told by its verdict
pub answer-first : (h : History) (channel : ℕ) (raw : List ℕ) → is_bookable raw ≡ true → known h (key_of channel raw) ≡ None
    → arrival_answer h channel raw ≡ told_by (message_count h) (decided (plan_in_force h) channel raw)
unfolding arrival_answer
answer-first h channel raw bookable none = rw (bookable, none) refl

-- whether there is room for an arrival that is told so, by what its slots would owe
pub full-told : (h : History) (channel : ℕ) (raw : List ℕ) (told : Told) (plan : PlanEntry) (owes : ℕ) → arrival_answer h channel raw ≡ Some told → plan ≡ plan_in_force h
    → owes ≡ committed_by_new plan (slots_added plan channel raw told) → is_full h channel raw ≡ is_over_limit h owes
unfolding is_full
full-told h channel raw told plan owes is same owed =
    ap (λ o. is_over_limit h (option_map_or (λ told. committed_by_new (plan_in_force h) (slots_added (plan_in_force h) channel raw told)) o 0)) is
    ∙ (ap (λ p. is_over_limit h (committed_by_new p (slots_added p channel raw told))) (sym same)
    ∙ ap (is_over_limit h) (sym owed))

-- a plan allows at most 100 attempts
pub few-attempts : (plan : PlanEntry) → IsPlan plan → (d : ℕ) → attempts_max plan d ≤ 100
few-attempts plan good d = found (slice_get plan.destinations d) (found-holds IsDestination plan.destinations d good.each_destination)
  where
    found : (o : Option DestinationEntry) → IfSome o IsDestination → option_map_or (λ x. x.attempts) o 0 ≤ 100
    found None each = omega arith
    found (Some x) each = each.attempts

-- attempts within a bound are within a greater one
within-greater : (max most : ℕ) → max ≤ most → (s : SlotState) → IsWithin max s → IsWithin most s
within-greater max most less (Waiting attempts due) within = omega arith
within-greater max most less (InFlight attempt) within = omega arith
within-greater max most less Delivered within = tt
within-greater max most less (Failed cause) within = tt

-- each slot has at most 100 attempts
pub slot-within : (h : History) → IsSound h → (n d : ℕ) → IfSome (slot h n d) (IsWithin 100)
slot-within h sound n d = by (slot h n d) (sound.attempts n d)
  where
    by : (o : Option SlotState) → IfSome o (IsWithin (attempts_max (plan_in_force h) d)) → IfSome o (IsWithin 100)
    by None within = tt
    by (Some s) within = within-greater (attempts_max (plan_in_force h) d) 100 (few-attempts (plan_in_force h) sound.plan d) s within

-- the ticket of a take is for that destination
pub ticket-destination : (h : History) (d now : ℕ) (ticket : Ticket) → take_answer h d now ≡ Ok ticket → ticket.destination ≡ d
ticket-destination h d now ticket is = front (slice_get (queue h d) 0) is
  where
    due-or-not : (early : Bool) (attempts due n : ℕ) → cond early (Err (NotDue due)) (Ok (record { number = n; destination = d; attempt = attempts + 1 })) ≡ Ok ticket → ticket.destination ≡ d
    due-or-not true attempts due n e = absurd cc
    due-or-not false attempts due n e = let same : record { number = n; destination = d; attempt = attempts + 1 } ≡ ticket = cc in ap (λ (t : Ticket). t.destination) (sym same)

    by : (n : ℕ) (o : Option SlotState) → front_answer d now n o ≡ Ok ticket → ticket.destination ≡ d
    by n None e = absurd cc
    by n (Some (Waiting attempts due)) e = due-or-not (nat_lt now due) attempts due n e
    by n (Some (InFlight attempt)) e = absurd cc
    by n (Some Delivered) e = absurd cc
    by n (Some (Failed cause)) e = absurd cc

    front : (o : Option ℕ) → option_map_or (λ n. front_answer d now n (slot h n d)) o (Err Idle) ≡ Ok ticket → ticket.destination ≡ d
    front None e = absurd cc
    front (Some n) e = by n (slot h n d) e
