-- A book that is kept keeps its promise.
use Rattle.std.proofs.Common.{◌≡◌, ◌≢◌, ℕ, ◌+◌, Bool, true, false, cond, List, [], ◌∷◌, None, Some, refl, sym, ◌∙◌, ap, subst, arith, suc}
use Rattle.std.specs.Prelude.{All, AllPairs, is_some}
use Rattle.std.specs.List.{AllByRecursion, range_with_len}
use Rattle.std.specs.List.Sorted.{IsStrictlyIncreasing}
use Rattle.std.proofs.lemmas.List.Elements.{All-cons, All-head, All-map, All-nil, All-tail}
use Rattle.std.proofs.lemmas.List.Kept.{AllPairs-cons}
use Rattle.judge_core.specs.declared.delivery.Delivery.{Delivery}
use Rattle.judge_core.specs.Delivering.{destinations_of}
use Rattle.row_store.specs.declared.Row.{Row}
use Rattle.dest_queue.specs.declared.SlotState.{SlotState}
use Rattle.dest_queue.specs.declared.slots.Queued.{Queued}
use Rattle.dest_queue.specs.declared.slots.Slot.{Slot}
use Rattle.dest_queue.specs.inner.SlotsBy.{slots_by}
use Rattle.dup_index.specs.inner.Known.{Known}
use Rattle.stat_count.specs.declared.ChannelCounts.{ChannelCounts}
use Rattle.stat_count.specs.Statistics.{Statistics}
use Rattle.event_log.specs.History.{History, deliveries, names, slot, state}
use Rattle.event_log.proofs.Reading.{queue-rises}
use Rattle.event_log.proofs.Replaying.{accepted-is, filtered-is, message-arrived, repeat-is}
use Rattle.event_log.proofs.Rerun.{replay-same}
use Rattle.book_core.specs.declared.letter.Outbound.{Outbound}
use Rattle.event_log.specs.Counting.{channel_counts}
use Rattle.book_core.specs.Headline.{KeepsItsPromise}
use Rattle.book_core.specs.inner.Parts.{IsAsTold, IsKept}
use Rattle.book_core.proofs.Counted.{counted-is, received-sum}
use Rattle.book_core.proofs.Rows.{kept-queue, kept-slot}

-- what holds of each item by recursion holds of each
all-listed : {A : Type 0} (P : A → Type 0) (xs : List A) → AllByRecursion P xs → All P xs
all-listed P [] all = All-nil P
all-listed P (x ∷ xs) all = All-cons P x xs all.0 (all-listed P xs all.1)

-- what holds of each number
all-each : {A : Type 0} (P : A → Type 0) → ((x : A) → P x) → (xs : List A) → All P xs
all-each P each xs = λ k d inside. each _

-- slots for destinations that differ are for destinations that differ
slots-apart : (state : ℕ → SlotState) (ds : List Delivery) → AllPairs (λ x y. x.destination ≢ y.destination) ds → AllPairs (λ (a b : Slot). a.destination ≢ b.destination) (slots_by state (destinations_of ds))
slots-apart state [] once = λ i j d below inside. absurd (omega arith)
slots-apart state (x ∷ ds) once =
    AllPairs-cons (λ (a b : Slot). a.destination ≢ b.destination) (record { destination = x.destination; state = state x.destination }) (slots_by state (destinations_of ds))
    (elsewhere ds (λ k d inside. once 0 (suc k) d (omega arith) (omega arith)))
    (slots-apart state ds (λ i j d below inside. once (suc i) (suc j) d (omega arith) (omega arith)))
  where
    elsewhere : (ds : List Delivery) → All (λ y. x.destination ≢ y.destination) ds → All (λ (b : Slot). x.destination ≢ b.destination) (slots_by state (destinations_of ds))
    elsewhere [] all = All-nil (λ (b : Slot). x.destination ≢ b.destination)
    elsewhere (y ∷ ds) all =
        All-cons (λ (b : Slot). x.destination ≢ b.destination) (record { destination = y.destination; state = state y.destination }) (slots_by state (destinations_of ds))
        (All-head (λ y. x.destination ≢ y.destination) y ds all) (elsewhere ds (All-tail (λ y. x.destination ≢ y.destination) y ds all))

module _ (h : History) (rows : List (Row (Queued Outbound))) (index : List Known) (tally : Statistics) (flights room : ℕ) (kept : IsKept h rows index tally flights room) where
  -- no row has two slots for a destination
  rows-once : (rows : List (Row (Queued Outbound))) → AllByRecursion (IsAsTold h) rows → AllByRecursion (λ row. AllPairs (λ (a b : Slot). a.destination ≢ b.destination) row.item.slots) rows
  rows-once [] told = tt
  rows-once (row ∷ rows) told = (
    subst (AllPairs (λ (a b : Slot). a.destination ≢ b.destination)) (sym told.0.slots) (slots-apart (state h row.number) (deliveries h row.number) (kept.sound.deliveries row.number).once),
    rows-once rows told.1,
  )

  -- a message has a slot where it goes
  slot-named : (n d : ℕ) → is_some (slot h n d) ≡ names d (deliveries h n)
  slot-named n d = by (names d (deliveries h n))
    where
      by : (b : Bool) → is_some (cond b (Some (state h n d)) None) ≡ b
      by true = refl
      by false = refl

  pub promise-kept : KeepsItsPromise h rows tally
  promise-kept =
      let statistics = counted-is h tally kept.are_counted in record {
        replayed = replay-same h kept.sound.legal;
        answered = kept.sound.legal;
        acknowledged = accepted-is h kept.sound.legal;
        arrived = message-arrived h kept.sound.legal;
        filtered = filtered-is h kept.sound.legal;
        repeated = repeat-is h kept.sound.opening kept.sound.legal;
        one_row = kept.rows_agree.each_once;
        standing = kept-slot h rows kept.rows_agree;
        once = all-listed (λ row. AllPairs (λ (a b : Slot). a.destination ≢ b.destination) row.item.slots) rows (rows-once rows kept.rows_agree.as_told);
        for_no_other = λ n d. ap is_some (kept-slot h rows kept.rows_agree n d) ∙ slot-named n d;
        queued = kept-queue h rows kept.rows_agree;
        in_order = λ d inside. subst IsStrictlyIncreasing (sym (kept-queue h rows kept.rows_agree d inside)) (queue-rises h d);
        statistics = statistics;
        received = subst (λ (t : Statistics). All (λ (c : ChannelCounts). c.received ≡ c.filtered + c.accepted + c.refused) t.channels) (sym statistics)
            (All-map (λ (c : ChannelCounts). c.received ≡ c.filtered + c.accepted + c.refused) (channel_counts h) (range_with_len 0 64)
            (all-each (λ c. (channel_counts h c).received ≡ (channel_counts h c).filtered + (channel_counts h c).accepted + (channel_counts h c).refused) (received-sum h kept.sound.opening) (range_with_len 0 64)));
        room = kept.sound.room;
      }
