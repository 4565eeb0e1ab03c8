-- What is remembered of the arrivals that stay, as the rows say it.
use Rattle.std.proofs.Common.{◌≡◌, ℕ, ◌+◌, ◌<◌, ◌≤◌, inl, inr, Bool, true, false, cond, not, nat_lt, List, [], ◌∷◌, ◌++◌, map, Option, None, Some, refl, sym, ◌∙◌, ap, arith, suc}
use Rattle.std.specs.Prelude.{option_and_then}
use Rattle.std.specs.List.{cons_option, filter_map, range_with_len}
use Rattle.std.specs.Option.{option_map_or}
use Rattle.std.proofs.lemmas.Bool.Decides.{nat_tests}
use Rattle.std.proofs.lemmas.List.{append-nil}
use Rattle.std.proofs.lemmas.List.Elements.{filter-append, filter_map-append}
use Rattle.std.proofs.lemmas.Option.{same_Some}
use Rattle.judge_core.specs.declared.delivery.Delivery.{Delivery}
use Rattle.judge_core.specs.Delivering.{destinations_of}
use Rattle.row_store.specs.declared.Row.{Row}
use Rattle.row_store.specs.Rows.{item_at}
use Rattle.dest_queue.specs.declared.SlotState.{SlotState}
use Rattle.dest_queue.specs.declared.slots.Queued.{Queued}
use Rattle.dest_queue.specs.declared.slots.Slot.{Slot}
use Rattle.dest_queue.specs.inner.SlotsBy.{slots_by}
use Rattle.event_log.specs.declared.entry.Entry.{Entry}
use Rattle.event_log.specs.declared.entry.Entry.TheVariants.{Arrival, Take, Settle, Cancel, Deploy}
use Rattle.event_log.specs.declared.entry.Told.{Told}
use Rattle.event_log.specs.declared.entry.Told.TheVariants as told
use Rattle.event_log.specs.Answers.{is_kept}
use Rattle.event_log.specs.Folding.{recalled, recalled_from, told_slots}
use Rattle.event_log.specs.History.{History, Remembered, deliveries, entry_at, number_told, state}
use Rattle.event_log.proofs.OneMore.{range-push}
use Rattle.book_core.specs.declared.letter.Outbound.{Outbound}
use Rattle.book_core.specs.inner.Parts.{RowsAgree}
use Rattle.book_core.specs.inner.Pruning.{since}
use Rattle.book_core.proofs.Rows.{row-of}

-- ---- one arrival

slots-told : (f : ℕ → SlotState) (ds : List Delivery)
    → slots_by f (destinations_of ds) ≡ map (λ x. record { destination = x.destination; state = f x.destination }) ds
slots-told f [] = refl
slots-told f (x ∷ ds) = ap (λ (slots : List Slot). record { destination = x.destination; state = f x.destination } ∷ slots) (slots-told f ds)

module _ (h : History) (rows : List (Row (Queued Outbound))) (agree : RowsAgree h rows) where
  row-says : (n : ℕ) (item : Queued Outbound) → item_at n rows ≡ Some item → (item.content.deliveries ≡ deliveries h n)
      × (item.slots ≡ told_slots h (told.Accepted n))
  row-says n item is = elim (row-of h rows agree n) [
    | inl w ↦
        let same : item ≡ w.0.item = same_Some {A = Queued Outbound} item w.0.item (sym is ∙ w.3) in (
          ap (λ i. i.content.deliveries) same ∙ (w.2.deliveries ∙ ap (deliveries h) w.1),
          ap (λ i. i.slots) same ∙ (w.2.slots ∙ (slots-told (state h w.0.number) (deliveries h w.0.number)
              ∙ ap (λ k. told_slots h (told.Accepted k)) w.1)),
        )
    | inr w ↦ let none = w.0 in absurd cc
  ]

  row-lacks : (n : ℕ) → item_at n rows ≡ None → deliveries h n ≡ []
  row-lacks n is = elim (row-of h rows agree n) [
    | inl w ↦ let some = w.3 in absurd cc
    | inr w ↦ ap (λ m. option_map_or (λ m. m.deliveries) m []) w.1
  ]

  -- an arrival whose message has a row is as the row says
  pub recalled-row : (place channel : ℕ) (raw : List ℕ) (reply : Told) (item : Queued Outbound)
      → option_and_then (λ n. item_at n rows) (number_told reply) ≡ Some item
      → record { place = place; channel = channel; raw = raw; told = reply; deliveries = item.content.deliveries; slots = item.slots }
      ≡ recalled h place channel raw reply
  recalled-row place channel raw (told.Accepted n) item is =
      let says = row-says n item is in λ i. record {
        place = place;
        channel = channel;
        raw = raw;
        told = told.Accepted n;
        deliveries = says.0 i;
        slots = says.1 i;
      }
  recalled-row place channel raw told.Filtered item is = absurd cc
  recalled-row place channel raw (told.Refused cause) item is = absurd cc
  recalled-row place channel raw (told.Repeat first) item is = absurd cc

  -- one without a row goes nowhere
  pub recalled-none : (place channel : ℕ) (raw : List ℕ) (reply : Told) → option_and_then (λ n. item_at n rows) (number_told reply) ≡ None
      → record { place = place; channel = channel; raw = raw; told = reply; deliveries = []; slots = [] } ≡ recalled h place channel raw reply
  recalled-none place channel raw (told.Accepted n) is =
      let none = row-lacks n is in
      λ i. record {
        place = place;
        channel = channel;
        raw = raw;
        told = told.Accepted n;
        deliveries = sym none i;
        slots = map (λ x. record { destination = x.destination; state = state h n x.destination }) (sym none i);
      }
  recalled-none place channel raw told.Filtered is = refl
  recalled-none place channel raw (told.Refused cause) is = refl
  recalled-none place channel raw (told.Repeat first) is = refl

-- ---- those of entries

-- what is remembered of the entry at a place
abbrev pub kept_at : History → ℕ → Option Remembered
kept_at h place = option_and_then (recalled_from h place) (entry_at h place)

-- it stood there
kept-place : (h : History) (place : ℕ) (e : Entry) (r : Remembered) → recalled_from h place e ≡ Some r → r.place ≡ place
kept-place h place (Arrival conn channel raw reply) r is = by (is_kept reply) is
  where
    by : (b : Bool) → cond b (Some (recalled h place channel raw reply)) None ≡ Some r → r.place ≡ place
    by true e = ap (λ x. x.place) (sym (same_Some {A = Remembered} (recalled h place channel raw reply) r e))
    by false e = absurd cc
kept-place h place (Take ticket now) r is = absurd cc
kept-place h place (Settle outcome ticket now state) r is = absurd cc
kept-place h place (Cancel number among mask) r is = absurd cc
kept-place h place (Deploy plan) r is = absurd cc

kept_at-place : (h : History) (place : ℕ) (r : Remembered) → kept_at h place ≡ Some r → r.place ≡ place
kept_at-place h place r is = by (entry_at h place) is
  where
    by : (o : Option Entry) → option_and_then (recalled_from h place) o ≡ Some r → r.place ≡ place
    by None e = absurd cc
    by (Some e) is = kept-place h place e r is

-- those of the first places from a place on
abbrev pub kept_of : History → ℕ → ℕ → List Remembered
kept_of h first k = filter_map (kept_at h) (range_with_len first k)

-- one place more
kept_of-more : (h : History) (floor first k place : ℕ) → first + k ≡ place
    → since floor (kept_of h first (k + 1)) ≡ since floor (kept_of h first k) ++ since floor (cons_option (kept_at h place) [])
kept_of-more h floor first k place here =
    let next : k + 1 ≡ suc k = omega arith in
    ap (λ n. since floor (kept_of h first n)) next
    ∙ (ap (λ ns. since floor (filter_map (kept_at h) ns)) (range-push first k)
    ∙ (ap (λ p. since floor (filter_map (kept_at h) (range_with_len first k ++ p ∷ []))) here
    ∙ (ap (since floor) (filter_map-append (kept_at h) (range_with_len first k) (place ∷ []))
    ∙ filter-append (λ r. not (nat_lt r.place floor)) (kept_of h first k) (cons_option (kept_at h place) []))))

-- of a place below the floor nothing is kept
pub below-floor : (h : History) (floor first k place : ℕ) → first + k ≡ place → place < floor
    → since floor (kept_of h first (k + 1)) ≡ since floor (kept_of h first k)
below-floor h floor first k place here below = kept_of-more h floor first k place here
    ∙ (ap (λ rs. since floor (kept_of h first k) ++ rs) (by (kept_at h place) refl) ∙ append-nil (since floor (kept_of h first k)))
  where
    by : (o : Option Remembered) → kept_at h place ≡ o → since floor (cons_option o []) ≡ []
    by None is = refl
    by (Some r) is =
        let same = kept_at-place h place r is in
        let yes : nat_lt r.place floor ≡ true = grind (arith, nat_tests) in rw yes refl

-- nor where there is no arrival
pub none-kept : (h : History) (floor first k place : ℕ) → first + k ≡ place → kept_at h place ≡ None
    → since floor (kept_of h first (k + 1)) ≡ since floor (kept_of h first k)
none-kept h floor first k place here is = kept_of-more h floor first k place here
    ∙ (ap (λ o. since floor (kept_of h first k) ++ since floor (cons_option o [])) is ∙ append-nil (since floor (kept_of h first k)))

-- an arrival from the floor on is
pub one-kept : (h : History) (floor first k place : ℕ) (r : Remembered) → first + k ≡ place → floor ≤ place → kept_at h place ≡ Some r
    → since floor (kept_of h first (k + 1)) ≡ since floor (kept_of h first k) ++ r ∷ []
one-kept h floor first k place r here from is =
    let same = kept_at-place h place r is in
    let no : nat_lt r.place floor ≡ false = grind (arith, nat_tests) in
    kept_of-more h floor first k place here ∙ (ap (λ o. since floor (kept_of h first k) ++ since floor (cons_option o [])) is ∙ rw no refl)
