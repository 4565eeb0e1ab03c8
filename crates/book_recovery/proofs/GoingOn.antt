-- A book that goes on from another: what was in flight waits again.
use Rattle.std.proofs.Common.{◌≡◌, ℕ, ◌+◌, ◌≤◌, Bool, false, cond, List, [], ◌∷◌, map, Option, None, Some, refl, sym, ap, ◌∙◌, arith}
use Rattle.std.specs.Prelude.{All, count_by, filter, nat_lt}
use Rattle.std.specs.List.{AllByRecursion, range_with_len}
use Rattle.std.specs.Option.{option_map, option_map_or}
use Rattle.std.proofs.lemmas.List.Elements.{recursion_from_All}
use Rattle.std.proofs.lemmas.List.Sums.{sum_by-cons}
use Rattle.dest_queue.specs.declared.SlotState.{SlotState}
use Rattle.dest_queue.specs.declared.SlotState.TheVariants.{Waiting, InFlight, Delivered, Failed}
use Rattle.dest_queue.specs.declared.slots.Slot.{Slot}
use Rattle.dest_queue.specs.States.{is_live}
use Rattle.stat_count.specs.declared.DestinationCounts.{DestinationCounts}
use Rattle.event_log.specs.Counting.{destination_counts}
use Rattle.event_log.specs.History.{History, Remembered, Snapshot, begun, message_at, numbers, of_snapshot, queue, slot}
use Rattle.event_log.specs.Room.{is_in_flight, owed}
use Rattle.event_log.specs.inner.Legal.{IsGoodOpening}
use Rattle.event_log.specs.inner.Room.{in_flight}
use Rattle.event_log.proofs.Following.{funext}
use Rattle.opening_maps.specs.inner.GivenBack.{AreStarted, arrival_given_back, given_back, slot_given_back, state_given_back}
use Rattle.opening_maps.proofs.GivenBack.{destinations-back, good-back, messages-stay, others-stay, owed-back, slots-back}
use Rattle.opening_records.specs.inner.Openings.{with_bound}
use Rattle.book_recovery.specs.Interrupting.{flying, is_flying}
use Rattle.book_recovery.specs.inner.File.{AreAtRest, going_on, rebound}

-- the book without entries
abbrev from : ℕ → Snapshot → History
from bound o = begun (with_bound bound (given_back o))

goes_from : (h : History) (bound : ℕ) → h.entries ≡ [] → going_on bound h ≡ from bound h.opening
goes_from h bound none = ap (of_snapshot (with_bound bound (given_back h.opening))) none

is_begun : (h : History) → h.entries ≡ [] → h ≡ begun h.opening
is_begun h none = ap (of_snapshot h.opening) none

pub messages : (h : History) (bound n : ℕ) → h.entries ≡ [] → message_at (going_on bound h) n ≡ message_at h n
messages h bound n none =
    ap (λ (x : History). message_at x n) (goes_from h bound none)
    ∙ (messages-stay h.opening n ∙ sym (ap (λ (x : History). message_at x n) (is_begun h none)))

pub slots : (h : History) (bound n d : ℕ) → h.entries ≡ [] → slot (going_on bound h) n d ≡ option_map state_given_back (slot h n d)
slots h bound n d none =
    ap (λ (x : History). slot x n d) (goes_from h bound none)
    ∙ (slots-back h.opening n d ∙ sym (ap (λ (x : History). option_map state_given_back (slot x n d)) (is_begun h none)))

-- ---- queues

live-stays : (s : SlotState) → is_live (state_given_back s) ≡ is_live s
live-stays (Waiting attempts due) = refl
live-stays (InFlight attempt) = refl
live-stays Delivered = refl
live-stays (Failed cause) = refl

queued-stays : (s : Option SlotState) → option_map_or is_live (option_map state_given_back s) false ≡ option_map_or is_live s false
queued-stays None = refl
queued-stays (Some s) = live-stays s

queue-stays : (o : Snapshot) (bound d : ℕ) → queue (from bound o) d ≡ queue (begun o) d
queue-stays o bound d =
    ap (λ p. filter p (numbers (begun o)))
    (funext (λ n. option_map_or is_live (slot (from bound o) n d) false) (λ n. option_map_or is_live (slot (begun o) n d) false)
    (λ n. ap (λ s. option_map_or is_live s false) (slots-back o n d) ∙ queued-stays (slot (begun o) n d)))

pub queues : (h : History) (bound d : ℕ) → h.entries ≡ [] → queue (going_on bound h) d ≡ queue h d
queues h bound d none =
    ap (λ (x : History). queue x d) (goes_from h bound none)
    ∙ (queue-stays h.opening bound d ∙ sym (ap (λ (x : History). queue x d) (is_begun h none)))

-- ---- none is in flight

none-flying : (f : ℕ → DestinationCounts) → ((d : ℕ) → (f d).inflight ≡ 0) → (ds : List ℕ) → count_by is_flying (map f ds) ≡ 0
none-flying f none [] = refl
none-flying f none (d ∷ ds) =
    let here : is_flying (f d) ≡ false = ap (λ k. nat_lt 0 k) (none d) in
    let first : ◌≡◌ {A = ℕ} (cond (is_flying (f d)) 1 0) 0 = ap (λ (b : Bool). cond {A = ℕ} b 1 0) here in
    let rest = none-flying f none ds in
    omega (arith, first, rest, sum_by-cons (λ c. cond (is_flying c) 1 0) (f d) (map f ds))

pub at-rest : (h : History) (bound : ℕ) → h.entries ≡ [] → flying (going_on bound h) ≡ 0
unfolding flying
at-rest h bound none =
    ap flying (goes_from h bound none)
    ∙ none-flying (destination_counts (from bound h.opening)) (λ d. ap (λ (c : DestinationCounts). c.inflight) (destinations-back h.opening d)) (range_with_len 0 32)

-- ---- where none was

slots-same : (slots : List Slot) → AllByRecursion (λ s. is_in_flight s.state ≡ false) slots → map slot_given_back slots ≡ slots
slots-same [] rest = refl
slots-same (s ∷ slots) rest =
    ap (λ x. record { destination = s.destination; state = x } ∷ map slot_given_back slots) (others-stay s.state rest.0)
    ∙ ap (λ xs. s ∷ xs) (slots-same slots rest.1)

arrivals-same : (rs : List Remembered) → AllByRecursion (λ r. All (λ s. is_in_flight s.state ≡ false) r.slots) rs → map arrival_given_back rs ≡ rs
arrivals-same [] rest = refl
arrivals-same (r ∷ rs) rest =
    ap (λ (xs : List Slot). record r { slots = xs } ∷ map arrival_given_back rs)
    (slots-same r.slots (recursion_from_All (λ (s : Slot). is_in_flight s.state ≡ false) r.slots rest.0))
    ∙ ap (λ xs. r ∷ xs) (arrivals-same rs rest.1)

pub unchanged : (h : History) (bound : ℕ) → AreAtRest h.opening → going_on bound h ≡ rebound bound h
unchanged h bound rest =
    ap (λ (rs : List Remembered). of_snapshot (with_bound bound (record (h.opening) { remembered = rs })) h.entries)
    (arrivals-same h.opening.remembered (recursion_from_All (λ (r : Remembered). All (λ s. is_in_flight s.state ≡ false) r.slots) h.opening.remembered rest))

-- ---- how much is enough

pub enough : (h : History) (bound : ℕ) → h.entries ≡ [] → IsGoodOpening h.opening → AreStarted h.opening → h.opening.events_max + in_flight h ≤ bound
    → IsGoodOpening (with_bound bound (given_back h.opening))
enough h bound none good started less =
    let more : owed (begun (given_back h.opening)) ≡ owed (begun h.opening) + in_flight (begun h.opening) = owed-back h.opening good started in
    let same : in_flight h ≡ in_flight (begun h.opening) = ap in_flight (is_begun h none) in
    good-back h.opening bound good started (omega (arith, more, same, good.room, less))
