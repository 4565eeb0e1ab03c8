-- How many slots there are, as one message's slots change.
use Rattle.std.proofs.Common.{◌≡◌, ◌≢◌, ℕ, ◌+◌, ◌*◌, ◌<◌, ◌≤◌, Bool, false, cond, List, [], ◌∷◌, length, get_or, Option, None, Some, refl, ◌∙◌, ap, arith, suc, zero}
use Rattle.std.specs.Prelude.{All, count_by, sum_by}
use Rattle.std.specs.List.{range_with_len}
use Rattle.std.specs.Option.{option_map_or}
use Rattle.std.proofs.lemmas.List.Elements.{All-head, All-tail}
use Rattle.std.proofs.lemmas.List.FromFn.{length-range_with_len}
use Rattle.std.proofs.lemmas.List.Sums.{length-filter, sum_by-cons, sum_by_push}
use Rattle.dest_queue.specs.declared.SlotState.{SlotState}
use Rattle.dest_queue.specs.declared.SlotState.TheVariants.{Waiting, InFlight, Delivered, Failed}
use Rattle.dest_queue.specs.States.{is_live, is_waiting}
use Rattle.stat_count.specs.Statistics.{no_slots}
use Rattle.stat_count.specs.inner.Statistics.{slots_of}
use Rattle.event_log.specs.declared.entry.Entry.{Entry}
use Rattle.event_log.specs.History.{History, begun, followed_by, message_count, next_place, numbers, queue, slot}
use Rattle.event_log.specs.inner.History.{forgotten_messages}
use Rattle.event_log.specs.inner.Legal.{IsGoodOpening}
use Rattle.event_log.specs.Room.{is_in_flight}
use Rattle.event_log.proofs.Forgetting.{gone-few}
use Rattle.event_log.proofs.Totals.{messages-places, sum-alike, sum-changed, sum-more}
use Rattle.event_log.specs.Counting.{destination_before, destination_counts, is_delivered, is_failed, slot_count}

-- 1 for a slot that is so
abbrev pub one : (SlotState → Bool) → Option SlotState → ℕ
one so o = cond (option_map_or so o false) 1 0

-- one message changed
pub slot_count-changed : (h h' : History) (n d : ℕ) (so : SlotState → Bool) → message_count h' ≡ message_count h → n < message_count h → ((m : ℕ) → m ≢ n → slot h' m d ≡ slot h m d)
    → slot_count h' d so + one so (slot h n d) ≡ slot_count h d so + one so (slot h' n d)
slot_count-changed h h' n d so same exists others =
    ap (λ k. sum_by (λ m. one so (slot h' m d)) (range_with_len 0 k) + one so (slot h n d)) same
    ∙ sum-changed (λ m. one so (slot h m d)) (λ m. one so (slot h' m d)) n (λ m apart. ap (one so) (others m apart)) 0 (message_count h) (omega arith) (omega arith)

-- no message changed
pub slot_count-same : (h h' : History) (d : ℕ) (so : SlotState → Bool) → message_count h' ≡ message_count h → ((m : ℕ) → m < message_count h → slot h' m d ≡ slot h m d)
    → slot_count h' d so ≡ slot_count h d so
slot_count-same h h' d so same older =
    ap (λ k. sum_by (λ m. one so (slot h' m d)) (range_with_len 0 k)) same
    ∙ sum-alike (λ m. one so (slot h m d)) (λ m. one so (slot h' m d)) 0 (message_count h) (λ m low below. ap (one so) (older m (omega arith)))

-- one message came
pub slot_count-grown : (h h' : History) (d : ℕ) (so : SlotState → Bool) → message_count h' ≡ message_count h + 1 → ((m : ℕ) → m < message_count h → slot h' m d ≡ slot h m d)
    → slot_count h' d so ≡ slot_count h d so + one so (slot h' (message_count h) d)
slot_count-grown h h' d so more older =
    let next : message_count h' ≡ suc (message_count h) = omega arith in
    let last : slot h' (0 + message_count h) d ≡ slot h' (message_count h) d = ap (λ m. slot h' m d) (omega arith) in
    let kept = sum-alike (λ m. one so (slot h m d)) (λ m. one so (slot h' m d)) 0 (message_count h) (λ m low below. ap (one so) (older m (omega arith))) in
    ap (λ k. sum_by (λ m. one so (slot h' m d)) (range_with_len 0 k)) next
    ∙ (sum-more (λ m. one so (slot h' m d)) 0 (message_count h)
    ∙ (ap (λ s. s + one so (slot h' (0 + message_count h) d)) kept
    ∙ ap (λ o. slot_count h d so + one so o) last))

-- what is waiting or in flight is queued
live-either : (o : Option SlotState) → one is_live o ≡ one is_waiting o + one is_in_flight o
live-either None = refl
live-either (Some (Waiting attempts due)) = refl
live-either (Some (InFlight attempt)) = refl
live-either (Some Delivered) = refl
live-either (Some (Failed cause)) = refl

-- a sum of sums
sum-both : (f g both : ℕ → ℕ) → ((n : ℕ) → both n ≡ f n + g n) → (ns : List ℕ) → sum_by both ns ≡ sum_by f ns + sum_by g ns
sum-both f g both adds [] = refl
sum-both f g both adds (n ∷ ns) =
    let here = adds n in let rest = sum-both f g both adds ns in omega (arith, sum_by-cons f n ns, sum_by-cons g n ns, sum_by-cons both n ns)

-- a queue is as long as the slots that wait and those in flight
pub queue-counted : (h : History) (d : ℕ) → length (queue h d) ≡ slot_count h d is_waiting + slot_count h d is_in_flight
queue-counted h d =
    length-filter (λ n. option_map_or is_live (slot h n d) false) (numbers h)
    ∙ sum-both (λ n. one is_waiting (slot h n d)) (λ n. one is_in_flight (slot h n d)) (λ n. one is_live (slot h n d)) (λ n. live-either (slot h n d)) (numbers h)

-- a slot is in one state alone
one-state : (o : Option SlotState) → one is_waiting o + one is_in_flight o + one is_delivered o + one is_failed o ≤ 1
one-state None = omega arith
one-state (Some (Waiting attempts due)) = omega arith
one-state (Some (InFlight attempt)) = omega arith
one-state (Some Delivered) = omega arith
one-state (Some (Failed cause)) = omega arith

-- four counts of which each number is in one at most
four-counts : (a b c d : ℕ → ℕ) → ((n : ℕ) → a n + b n + c n + d n ≤ 1) → (ns : List ℕ) → sum_by a ns + sum_by b ns + sum_by c ns + sum_by d ns ≤ length ns
four-counts a b c d once [] = omega arith
four-counts a b c d once (n ∷ ns) =
    let here = once n in let rest = four-counts a b c d once ns in omega (arith, sum_by-cons a n ns, sum_by-cons b n ns, sum_by-cons c n ns, sum_by-cons d n ns)

-- no more slots than messages, and those that are forgotten
pub slots-messages : (h : History) (d : ℕ) → slots_of (destination_counts h d) ≤ (destination_before h d).delivered + (destination_before h d).failed + message_count h
slots-messages h d =
    let counts = four-counts (λ n. one is_waiting (slot h n d)) (λ n. one is_in_flight (slot h n d)) (λ n. one is_delivered (slot h n d)) (λ n. one is_failed (slot h n d)) (λ n. one-state (slot h n d)) (numbers h) in
    omega (arith, counts, length-range_with_len 0 (message_count h))

-- what holds of each item of a list, and of the default, holds at each place
pub all-at : {X : Type 0} (P : X → Type 0) (xs : List X) (d : X) → All P xs → P d → (k : ℕ) → P (get_or xs k d)
all-at P [] d all none k = none
all-at P (x ∷ xs) d all none zero = All-head P x xs all
all-at P (x ∷ xs) d all none (suc k) = all-at P xs d (All-tail P x xs all) none k

-- no more slots than two for each place
pub slots-places : (h : History) → IsGoodOpening h.opening → (d : ℕ) → slots_of (destination_counts h d) ≤ 2 * next_place h
slots-places h good d =
    let few = slots-messages h d in
    let messages = messages-places h good.messages_few in
    let gone = gone-few (begun h.opening) in
    let before = all-at (λ c. c.delivered + c.failed ≤ forgotten_messages (begun h.opening)) h.opening.forgotten.destinations no_slots good.forgotten.named (omega arith) d in omega arith

-- a count with one more entry
pub count-push : (so : Entry → Bool) (h : History) (e : Entry) → count_by so (followed_by h e).entries ≡ count_by so h.entries + cond (so e) 1 0
count-push so h e = sum_by_push (λ x. cond (so x) 1 0) h.entries e
