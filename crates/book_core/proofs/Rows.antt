-- What the rows of a book say of its history.
use Rattle.std.proofs.Common.{◌≡◌, ◌≢◌, ℕ, ◌+◌, ◌<◌, ◌≤◌, Bool, true, false, cond, ◌==◌, ◌&&◌, ◌||◌, ◌⊎◌, inl, inr, List, [], ◌∷◌, None, Some, refl, sym, ◌∙◌, ap, arith, suc, zero}
use Rattle.std.specs.List.{AllByRecursion, list_any, range_with_len}
use Rattle.std.specs.Prelude.{filter, find, is_some, map, slice_get, option_and_then}
use Rattle.std.specs.Option.{option_map, option_map_or}
use Rattle.std.proofs.lemmas.Bool.{cases_eq}
use Rattle.std.proofs.lemmas.Bool.Decides.{nat_tests}
use Rattle.judge_core.specs.declared.delivery.Delivery.{Delivery}
use Rattle.judge_core.specs.Delivering.{destinations_of}
use Rattle.row_store.specs.declared.Row.{Row}
use Rattle.row_store.specs.Rows.{is_row, item_at, row_numbers as numbers_of, queue_of, is_in_queue}
use Rattle.row_store.specs.inner.Rows.{changed_at, front_of}
use Rattle.row_store.proofs.Places.{numbers-changed_at}
use Rattle.row_store.proofs.QueueLaws.{front_of-queue_of}
use Rattle.dest_queue.specs.declared.SlotState.{SlotState}
use Rattle.dest_queue.specs.declared.slots.Queued.{Queued}
use Rattle.dest_queue.specs.Queues.{slot_of}
use Rattle.dest_queue.specs.inner.Queues.{front_state, waits_in}
use Rattle.dest_queue.specs.States.{is_live, is_waiting}
use Rattle.dest_queue.specs.Slots.{state_at}
use Rattle.dest_queue.specs.inner.SlotsBy.{is_among}
use Rattle.dest_queue.proofs.SlotLaws.{state_at-slots_by, waits_at-slots_by}
use Rattle.event_log.specs.History.{History, deliveries, is_queued, message_at, message_count, names, numbers, queue, remaining, slot, state}
use Rattle.event_log.specs.inner.History.{named}
use Rattle.event_log.specs.Answers.{waits}
use Rattle.event_log.proofs.Reading.{message-exists}
use Rattle.book_core.specs.declared.letter.Outbound.{Outbound}
use Rattle.book_core.specs.inner.Parts.{IsAsTold, RowsAgree}

same_number : (a b : ℕ) → (a == b) ≡ true → a ≡ b
same_number a b e = grind (arith, nat_tests)

other_number : (a b : ℕ) → (a == b) ≡ false → a ≢ b
other_number a b e = grind (arith, nat_tests)

-- what holds of each holds of each, weaker
pub all-weaker : {A : Type 0} (P Q : A → Type 0) → ((x : A) → P x → Q x) → (xs : List A) → AllByRecursion P xs → AllByRecursion Q xs
all-weaker P Q w [] all = tt
all-weaker P Q w (x ∷ xs) all = (w x all.0, all-weaker P Q w xs all.1)

-- the row of a number
abbrev pub Found : {T : Type 0} → (Row T → Type 0) → ℕ → List (Row T) → Type 0
Found {T} P n rows = (row : Row T) × (row.number ≡ n) × P row × (item_at n rows ≡ Some row.item)

-- a number has a row, or is none of the rows' numbers
pub found-or-not : {T : Type 0} (P : Row T → Type 0) (n : ℕ) (rows : List (Row T)) → AllByRecursion P rows → Found P n rows ⊎ ((item_at n rows ≡ None) × (list_any (λ m. m == n) (numbers_of rows) ≡ false))
found-or-not P n [] all = inr (refl, refl)
found-or-not {T} P n (row ∷ rows) all =
    elim (row.number == n) as (λ b. (row.number == n) ≡ b → ((r : Row T) × (r.number ≡ n) × P r × (option_map (λ (r : Row T). r.item) (cond b (Some row) (find (is_row n) rows)) ≡ Some r.item))
    ⊎ ((option_map (λ (r : Row T). r.item) (cond b (Some row) (find (is_row n) rows)) ≡ None) × ((b || list_any (λ m. m == n) (numbers_of rows)) ≡ false))) [
      | true ↦ λ t. inl (row, same_number row.number n t, all.0, refl)
      | false ↦ λ t. found-or-not P n rows all.1
    ] refl

-- a number that has a row is one of the rows' numbers
pub found-among : {T : Type 0} (n : ℕ) (item : T) (rows : List (Row T)) → item_at n rows ≡ Some item → list_any (λ m. m == n) (numbers_of rows) ≡ true
found-among n item [] found = absurd cc
found-among {T} n item (row ∷ rows) found =
    elim (row.number == n) as (λ b. option_map (λ (r : Row T). r.item) (cond b (Some row) (find (is_row n) rows)) ≡ Some item → (b || list_any (λ m. m == n) (numbers_of rows)) ≡ true)
    [ true ↦ λ is. refl | false ↦ λ is. found-among n item rows is ] found

-- a number of a range that passes a test is among those that do
kept-among : (p : ℕ → Bool) (a k n : ℕ) → a ≤ n → n < a + k → p n ≡ true → list_any (λ m. m == n) (filter p (range_with_len a k)) ≡ true
kept-among p a zero n low high passes = absurd (omega arith)
kept-among p a (suc k) n low high passes = elim (p a) as (λ b. p a ≡ b → list_any (λ m. m == n) (cond b (a ∷ filter p (range_with_len (a + 1) k)) (filter p (range_with_len (a + 1) k))) ≡ true) [
  | true ↦ λ is. elim (a == n) as (λ b. (a == n) ≡ b → (b || list_any (λ m. m == n) (filter p (range_with_len (a + 1) k))) ≡ true) [
    | true ↦ λ same. refl
    | false ↦ λ differs. let apart = other_number a n differs in kept-among p (a + 1) k n (omega arith) (omega arith) passes
  ] refl
  | false ↦ λ is. elim (cases_eq a n) [
    | inl same ↦ let no : p n ≡ false = ap p (sym same) ∙ is in absurd cc
    | inr apart ↦ kept-among p (a + 1) k n (omega arith) (omega arith) passes
  ]
] refl

-- and one that is among them passes
pub among-kept : (p : ℕ → Bool) (ns : List ℕ) (n : ℕ) → list_any (λ m. m == n) (filter p ns) ≡ true → p n ≡ true
among-kept p [] n among = absurd cc
among-kept p (m ∷ ns) n among = elim (p m) as (λ b. p m ≡ b → list_any (λ m. m == n) (cond b (m ∷ filter p ns) (filter p ns)) ≡ true → p n ≡ true) [
  | true ↦ λ is here. elim (m == n) as (λ b. (m == n) ≡ b → (b || list_any (λ m. m == n) (filter p ns)) ≡ true → p n ≡ true) [
    | true ↦ λ t e. ap p (sym (same_number m n t)) ∙ is
    | false ↦ λ t e. among-kept p ns n e
  ] refl here
  | false ↦ λ is rest. among-kept p ns n rest
] refl among

-- a test that passes only what another does leaves the same of what the other leaves
filter-within : (p q : ℕ → Bool) → ((n : ℕ) → p n ≡ true → q n ≡ true) → (ns : List ℕ) → filter p (filter q ns) ≡ filter p ns
filter-within p q within [] = refl
filter-within p q within (n ∷ ns) = elim (q n) as (λ b. q n ≡ b → filter p (cond b (n ∷ filter q ns) (filter q ns)) ≡ cond (p n) (n ∷ filter p ns) (filter p ns)) [
  | true ↦ λ is. ap (λ ms. cond (p n) (n ∷ ms) ms) (filter-within p q within ns)
  | false ↦ λ is. elim (p n) as (λ b. p n ≡ b → filter p (filter q ns) ≡ cond b (n ∷ filter p ns) (filter p ns)) [
    | true ↦ λ passes. let no = within n passes in absurd cc
    | false ↦ λ fails. filter-within p q within ns
  ] refl
] refl

-- a message that is gone has no slot
gone-slot : (h : History) (n d : ℕ) → message_at h n ≡ None → slot h n d ≡ None
gone-slot h n d gone = rw gone refl

-- one that is queued isn't gone
queued-there : (h : History) (d n : ℕ) → is_queued h d n ≡ true → is_some (message_at h n) ≡ true
queued-there h d n queued = elim (message_at h n) as (λ o. message_at h n ≡ o → is_some o ≡ true) [
  | None ↦ λ gone. let none : is_queued h d n ≡ false = ap (λ s. option_map_or is_live s false) (gone-slot h n d gone) in absurd cc
  | Some m ↦ λ is. refl
] refl

-- a queue by the numbers of its rows
pub queue_of-numbers : {T : Type 0} (d : ℕ) (p : ℕ → Bool) (rows : List (Row T)) → AllByRecursion (λ row. is_in_queue d row ≡ p row.number) rows → queue_of d rows ≡ filter p (numbers_of rows)
queue_of-numbers d p [] all = refl
queue_of-numbers {T} d p (row ∷ rows) all = rw all.0 (elim (p row.number) as (λ b. map (λ (r : Row T). r.number) (cond b (row ∷ filter (is_in_queue d) rows) (filter (is_in_queue d) rows)) ≡ cond b (row.number ∷ filter p (map (λ r. r.number) rows)) (filter p (map (λ r. r.number) rows)))
    [ true ↦ ap (λ xs. row.number ∷ xs) (queue_of-numbers d p rows all.1) | false ↦ queue_of-numbers d p rows all.1 ])

-- the destinations that deliveries name
pub among-named : (d : ℕ) (ds : List Delivery) → is_among d (destinations_of ds) ≡ names d ds
among-named d [] = refl
among-named d (x ∷ ds) = ap (λ b. (x.destination == d) || b) (among-named d ds)

module _ (h : History) (rows : List (Row (Queued Outbound))) (agree : RowsAgree h rows) where
  -- a number without a row is that of no message, or of one that is gone
  no-row : (n : ℕ) → list_any (λ m. m == n) (numbers_of rows) ≡ false → message_at h n ≡ None
  no-row n none = elim (message_at h n) as (λ o. message_at h n ≡ o → o ≡ None) [
    | None ↦ λ gone. refl
    | Some m ↦ λ is.
        let there : is_some (message_at h n) ≡ true = ap is_some is in
        let below = message-exists h n there in
        let among = ap (list_any (λ m. m == n)) agree.each_once ∙ kept-among (λ n. is_some (message_at h n)) 0 (message_count h) n (omega arith) (omega arith) there in absurd cc
  ] refl

  -- the row of a message, or none
  pub row-of : (n : ℕ) → Found (IsAsTold h) n rows ⊎ ((item_at n rows ≡ None) × (message_at h n ≡ None))
  row-of n = elim (found-or-not (IsAsTold h) n rows agree.as_told) [ inl w ↦ inl w | inr w ↦ inr (w.0, no-row n w.1) ]

  -- the slots of a row are those of its message
  slot-in : (d : ℕ) (row : Row (Queued Outbound)) → IsAsTold h row → state_at d row.item.slots ≡ slot h row.number d
  slot-in d row told = rw told.slots (state_at-slots_by (state h row.number) (named h row.number) d ∙ ap (λ b. cond b (Some (state h row.number d)) None) (among-named d (deliveries h row.number)))

  -- each slot is kept as the history has it
  pub kept-slot : (n d : ℕ) → slot_of n d rows ≡ slot h n d
  kept-slot n d = elim (row-of n) [
    | inl w ↦ rw w.3 (slot-in d w.0 w.2 ∙ ap (λ m. slot h m d) w.1)
    | inr w ↦ rw w.0 (sym (gone-slot h n d w.1))
  ]

  -- whether a message that is named, or not, waits
  waits-named : (named : Bool) (s : SlotState) → option_map_or is_waiting (cond named (Some s) None) false ≡ (named && is_waiting s)
  waits-named true s = refl
  waits-named false s = refl

  -- a message waits where the history has it so
  pub kept-waits : (n d : ℕ) → waits_in n d rows ≡ waits h n d
  kept-waits n d = elim (row-of n) [
    | inl w ↦ rw w.3 (rw w.2.slots (
        waits_at-slots_by (state h w.0.number) (named h w.0.number) d
        ∙ (ap (λ b. b && is_waiting (state h w.0.number d)) (among-named d (deliveries h w.0.number))
        ∙ (sym (waits-named (names d (deliveries h w.0.number)) (state h w.0.number d)) ∙ ap (λ m. waits h m d) w.1))))
    | inr w ↦ rw w.0 (sym (ap (λ s. option_map_or is_waiting s false) (gone-slot h n d w.1)))
  ]

  -- each queue is linked as the history has it
  pub kept-queue : (d : ℕ) → d < 32 → queue_of d rows ≡ queue h d
  kept-queue d within =
      queue_of-numbers d (is_queued h d) rows (all-weaker (IsAsTold h) (λ row. is_in_queue d row ≡ is_queued h d row.number) (λ row told. told.queues d within) rows agree.as_told)
      ∙ (ap (filter (is_queued h d)) agree.each_once ∙ filter-within (is_queued h d) (λ n. is_some (message_at h n)) (queued-there h d) (numbers h))

  pub kept-front : (d : ℕ) → d < 32 → front_of d rows ≡ slice_get (queue h d) 0
  kept-front d within = front_of-queue_of rows d ∙ ap (λ (q : List ℕ). slice_get q 0) (kept-queue d within)

  pub kept-front_state : (d : ℕ) → d < 32 → front_state d rows ≡ option_and_then (λ n. option_map (λ state. (n, state)) (slot h n d)) (slice_get (queue h d) 0)
  kept-front_state d within = rw (kept-front d within)
      (elim (slice_get (queue h d) 0) as (λ o. option_and_then {U = ℕ × SlotState} (λ n. option_map {U = ℕ × SlotState} (λ state. (n, state)) (slot_of n d rows)) o ≡ option_and_then {U = ℕ × SlotState} (λ n. option_map {U = ℕ × SlotState} (λ state. (n, state)) (slot h n d)) o)
      [ None ↦ refl | Some n ↦ ap (λ o. option_map {U = ℕ × SlotState} (λ state. (n, state)) o) (kept-slot n d) ])

-- the rows that follow a change of one of them
module _ (h g : History) (n : ℕ) (change : Row (Queued Outbound) → Row (Queued Outbound)) (same : (row : Row (Queued Outbound)) → (change row).number ≡ row.number)
    (others : (row : Row (Queued Outbound)) → row.number ≢ n → IsAsTold h row → IsAsTold g row) (changed : (row : Row (Queued Outbound)) → row.number ≡ n → IsAsTold h row → IsAsTold g (change row)) where
  all-changed : (rows : List (Row (Queued Outbound))) → AllByRecursion (IsAsTold h) rows → AllByRecursion (IsAsTold g) (changed_at n change rows)
  all-changed [] all = tt
  all-changed (row ∷ rows) all = (
    elim (row.number == n) as (λ b. (row.number == n) ≡ b → IsAsTold g (cond b (change row) row)) [
      | true ↦ λ e. changed row (same_number row.number n e) all.0
      | false ↦ λ e. others row (other_number row.number n e) all.0
    ] refl,
    all-changed rows all.1,
  )

  pub rows-changed : (rows : List (Row (Queued Outbound))) → remaining g ≡ remaining h → RowsAgree h rows → RowsAgree g (changed_at n change rows)
  rows-changed rows counted agree = record {
    each_once = numbers-changed_at n change same rows ∙ (agree.each_once ∙ sym counted);
    as_told = all-changed rows agree.as_told;
  }
