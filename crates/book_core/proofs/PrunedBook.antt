-- A book is kept by a pruning.
use Rattle.std.proofs.Common.{◌≡◌, ℕ, ◌≤◌, Bool, true, false, cond, not, ◌&&◌, ◌==◌, ◌||◌, nat_lt, inl, inr, List, [], ◌∷◌, Option, None, Some, refl, sym, ◌∙◌, ap, arith}
use Rattle.std.specs.Prelude.{filter, is_some, map, nat_le, option_and_then, sum_by}
use Rattle.std.specs.List.{AllByRecursion, range_with_len}
use Rattle.std.specs.Option.{option_map_or}
use Rattle.std.proofs.lemmas.Bool.Decides.{nat_tests}
use Rattle.std.proofs.lemmas.Option.{same_Some}
use Rattle.judge_core.specs.declared.delivery.Delivery.{Delivery}
use Rattle.judge_core.specs.Delivering.{destinations_of}
use Rattle.row_store.specs.declared.Row.{Row}
use Rattle.row_store.specs.Rows.{row_numbers as numbers_of}
use Rattle.dest_queue.specs.declared.SlotState.{SlotState}
use Rattle.dest_queue.specs.declared.SlotState.TheVariants.{Waiting, InFlight, Delivered, Failed}
use Rattle.dest_queue.specs.declared.slots.Queued.{Queued}
use Rattle.dest_queue.specs.inner.SlotsBy.{slots_by}
use Rattle.dest_queue.specs.States.{is_live}
use Rattle.dup_index.specs.inner.Known.{Known, place_of}
use Rattle.stat_count.specs.Statistics.{Statistics}
use Rattle.event_log.specs.Folding.{arrival_place, prune_answer, pruned}
use Rattle.event_log.specs.History.{History, control_id_of, deliveries, message_at, message_count, names, numbers, slot, state}
use Rattle.event_log.specs.inner.Legal.{IsSound}
use Rattle.event_log.specs.Room.{is_in_flight, message_total, total}
use Rattle.event_log.specs.inner.Room.{in_flight}
use Rattle.event_log.proofs.Beginning.{begun-sound}
use Rattle.event_log.proofs.FoldedAlike.{message-gone, message-kept, pruned-alike, quiet, same-count, slot-gone, slot-kept}
use Rattle.event_log.proofs.FoldedCounts.{folded-counts}
use Rattle.event_log.proofs.FoldedGood.{folded-good}
use Rattle.event_log.proofs.ForgottenPlaces.{known-pruned}
use Rattle.event_log.proofs.OneMore.{lt-tells}
use Rattle.event_log.proofs.Totals.{sum-alike}
use Rattle.book_core.specs.declared.letter.Outbound.{Outbound}
use Rattle.book_core.specs.inner.Counting.{AreCounted}
use Rattle.book_core.specs.inner.Parts.{IsAsTold, IsKept, KeysAgree, RowsAgree}
use Rattle.book_core.proofs.ThreeSums.{were-taken}

-- slots in states that agree wherever deliveries go
slots-alike : (f g : ℕ → SlotState) (ds : List Delivery) → ((d : ℕ) → names d ds ≡ true → f d ≡ g d)
    → slots_by f (destinations_of ds) ≡ slots_by g (destinations_of ds)
slots-alike f g [] same = refl
slots-alike f g (x ∷ ds) same =
    let own : (x.destination == x.destination) ≡ true = grind (arith, nat_tests) in
    let first = same x.destination (rw own refl) in
    let rest = slots-alike f g ds (λ d named. same d (by (x.destination == d) (names d ds) named)) in
    λ i. record { destination = x.destination; state = first i } ∷ rest i
  where
    by : (b c : Bool) → c ≡ true → (b || c) ≡ true
    by true c is = refl
    by false c is = is

-- the numbers of the rows that stay
numbers-filter : {T : Type 0} (q : ℕ → Bool) (rows : List (Row T)) → numbers_of (filter (λ row. q row.number) rows) ≡ filter q (numbers_of rows)
numbers-filter q [] = refl
numbers-filter {T} q (row ∷ rows) = elim (q row.number) as
    (λ b. map (λ (r : Row T). r.number) (cond b (row ∷ filter (λ r. q r.number) rows) (filter (λ r. q r.number) rows))
    ≡ cond b (row.number ∷ filter q (numbers_of rows)) (filter q (numbers_of rows)))
    [ true ↦ ap (λ ns. row.number ∷ ns) (numbers-filter q rows) | false ↦ numbers-filter q rows ]

-- two filters are one
filter-twice : (p q r : ℕ → Bool) → ((n : ℕ) → r n ≡ (p n && q n)) → (ns : List ℕ) → filter q (filter p ns) ≡ filter r ns
filter-twice p q r both [] = refl
filter-twice p q r both (n ∷ ns) = by (p n) (q n) (r n) (both n) refl (filter-twice p q r both ns)
  where
    by : (b c d : Bool) → d ≡ (b && c) → q n ≡ c → filter q (filter p ns) ≡ filter r ns
        → filter q (cond b (n ∷ filter p ns) (filter p ns)) ≡ cond d (n ∷ filter r ns) (filter r ns)
    by true true d is passes rest = rw (is, passes) (ap (λ ms. n ∷ ms) rest)
    by true false d is passes rest = rw (is, passes) rest
    by false c d is passes rest = rw is rest

module _ (h : History) (sound : IsSound h) (bound : ℕ) (may : prune_answer h bound ≡ None) where
  -- the row of a message that stays is as it was told
  told-kept : (row : Row (Queued Outbound)) → bound ≤ row.number → IsAsTold h row → IsAsTold (pruned bound h) row
  told-kept row from told =
      let n = row.number in
      let message = message-kept h sound bound may n from in
      let goes : deliveries (pruned bound h) n ≡ deliveries h n = ap (λ m. option_map_or (λ m. m.deliveries) m []) message in record {
        slots = told.slots ∙ (slots-alike (state h n) (state (pruned bound h) n) (deliveries h n) (states n goes)
            ∙ ap (λ ds. slots_by (state (pruned bound h) n) (destinations_of ds)) (sym goes));
        queues = λ d within. told.queues d within ∙ sym (ap (λ o. option_map_or is_live o false) (slot-kept h sound bound may n d from));
        control_id = told.control_id ∙ sym (ap (λ m. option_map_or (λ m. control_id_of m.raw) m []) message);
        deliveries = told.deliveries ∙ sym goes;
        came = message ∙ told.came;
      }
    where
      states : (n : ℕ) → deliveries (pruned bound h) n ≡ deliveries h n → (d : ℕ) → names d (deliveries h n) ≡ true
          → state h n d ≡ state (pruned bound h) n d
      states n goes d named = elim (lt-tells n bound) [
        | inl w ↦
            let gone : deliveries (pruned bound h) n ≡ [] = ap (λ m. option_map_or (λ m. m.deliveries) m []) (message-gone h sound bound may n w.1) in
            let none : names d (deliveries h n) ≡ false = ap (names d) (sym goes ∙ gone) in absurd cc
        | inr w ↦
            let still : names d (deliveries (pruned bound h) n) ≡ true = ap (names d) goes ∙ named in
            let both = slot-kept h sound bound may n d w.1 in
            same_Some {A = SlotState} (state h n d) (state (pruned bound h) n d)
            (sym (ap (λ b. cond b (Some (state h n d)) None) named) ∙ (sym both ∙ ap (λ b. cond b (Some (state (pruned bound h) n d)) None) still))
      ]

  rows-told : (rows : List (Row (Queued Outbound))) → AllByRecursion (IsAsTold h) rows
      → AllByRecursion (IsAsTold (pruned bound h)) (filter (λ row. not (nat_lt row.number bound)) rows)
  rows-told [] all = tt
  rows-told (row ∷ rows) all = elim (lt-tells row.number bound) [
    | inl w ↦ rw w.0 (rows-told rows all.1)
    | inr w ↦ rw w.0 (told-kept row w.1 all.0, rows-told rows all.1)
  ]

  stays : (n : ℕ) → is_some (message_at (pruned bound h) n) ≡ (is_some (message_at h n) && not (nat_lt n bound))
  stays n = elim (lt-tells n bound) [
    | inl w ↦ rw w.0 (ap is_some (message-gone h sound bound may n w.1) ∙ by (is_some (message_at h n)))
    | inr w ↦ rw w.0 (ap is_some (message-kept h sound bound may n w.1) ∙ all (is_some (message_at h n)))
  ]
    where
      by : (b : Bool) → false ≡ (b && false)
      by true = refl
      by false = refl

      all : (b : Bool) → b ≡ (b && true)
      all true = refl
      all false = refl

  -- the rows of the messages that aren't forgotten
  pub rows-pruned : (rows : List (Row (Queued Outbound))) → RowsAgree h rows
      → RowsAgree (pruned bound h) (filter (λ row. not (nat_lt row.number bound)) rows)
  rows-pruned rows agree = record {
    each_once =
        numbers-filter (λ n. not (nat_lt n bound)) rows
        ∙ (ap (filter (λ n. not (nat_lt n bound))) agree.each_once
        ∙ (filter-twice (λ n. is_some (message_at h n)) (λ n. not (nat_lt n bound)) (λ n. is_some (message_at (pruned bound h) n)) stays (numbers h)
        ∙ ap (λ k. filter (λ n. is_some (message_at (pruned bound h) n)) (range_with_len 0 k)) (sym (same-count h sound bound may))));
    as_told = rows-told rows agree.as_told;
  }

  -- the index, of which the keys before a place are dropped
  pub keys-pruned : (old new : List Known) → KeysAgree h old
      → ((key : List ℕ)
      → place_of key new ≡ option_and_then (λ added. cond (nat_le (arrival_place h bound) added) (Some added) None) (place_of key old))
      → KeysAgree (pruned bound h) new
  keys-pruned old new agree dropped key = dropped key
      ∙ (ap (option_and_then (λ added. cond (nat_le (arrival_place h bound) added) (Some added) None)) (agree key)
      ∙ sym (known-pruned h sound bound may key))

  -- the tally stays
  pub counts-pruned : (tally : Statistics) → AreCounted h tally → AreCounted (pruned bound h) tally
  counts-pruned tally counts =
      let alike = pruned-alike h sound bound may in record {
        all_channels = counts.all_channels;
        all_destinations = counts.all_destinations;
        channel = λ c below. counts.channel c below ∙ sym (alike.channels c below);
        destination = λ d below. counts.destination d below ∙ sym (alike.destinations d below);
      }

  abbrev flies : Option SlotState → ℕ
  flies o = option_map_or (λ s. cond (is_in_flight s) 1 0) o 0

  landed : (o : Option SlotState) → option_map_or is_live o false ≡ false → flies o ≡ 0
  landed None still = refl
  landed (Some (Waiting attempts due)) still = absurd cc
  landed (Some (InFlight attempt)) still = absurd cc
  landed (Some Delivered) still = refl
  landed (Some (Failed cause)) still = refl

  flies-same : (n d : ℕ) → flies (slot (pruned bound h) n d) ≡ flies (slot h n d)
  flies-same n d = elim (lt-tells n bound) [
    | inl w ↦ ap flies (slot-gone h sound bound may n d w.1) ∙ sym (landed (slot h n d) (quiet h sound bound may n d w.1))
    | inr w ↦ ap flies (slot-kept h sound bound may n d w.1)
  ]

  -- as many attempts are under way
  pub flights-pruned : in_flight (pruned bound h) ≡ in_flight h
  unfolding total
  flights-pruned =
      ap (λ k. sum_by (λ n. message_total (λ d s. cond (is_in_flight s) 1 0) (slot (pruned bound h) n)) (range_with_len 0 k))
      (same-count h sound bound may)
      ∙ sum-alike (λ n. message_total (λ d s. cond (is_in_flight s) 1 0) (slot h n))
      (λ n. message_total (λ d s. cond (is_in_flight s) 1 0) (slot (pruned bound h) n)) 0 (message_count h)
      (λ n low below. sum-alike (λ d. flies (slot h n d)) (λ d. flies (slot (pruned bound h) n d)) 0 32 (λ d least inside. flies-same n d))

-- a book of which messages are forgotten is kept
pub kept-pruned : (h : History) (rows : List (Row (Queued Outbound))) (index : List Known) (tally : Statistics) (flights room : ℕ)
    → IsKept h rows index tally flights room
    → (bound : ℕ) → prune_answer h bound ≡ None → (index' : List Known) (room' : ℕ)
    → ((key : List ℕ)
    → place_of key index' ≡ option_and_then (λ added. cond (nat_le (arrival_place h bound) added) (Some added) None) (place_of key index))
    → flights ≤ room'
    → IsKept (pruned bound h) (filter (λ row. not (nat_lt row.number bound)) rows) index' tally flights room'
kept-pruned h rows index tally flights room kept bound may index' room' dropped left =
    let sound = kept.sound in
    let taken = were-taken h sound in
    let flown = flights-pruned h sound bound may in record {
      sound = begun-sound _ (folded-good h sound bound may kept.bound (folded-counts h sound bound may kept.bound taken) taken);
      rows_agree = rows-pruned h sound bound may rows kept.rows_agree;
      keys_agree = keys-pruned h sound bound may index index' kept.keys_agree dropped;
      are_counted = counts-pruned h sound bound may tally kept.are_counted;
      flights_are = omega (arith, flown, kept.flights_are);
      reserved = omega (arith, flown, kept.flights_are);
      bound = kept.bound;
    }
