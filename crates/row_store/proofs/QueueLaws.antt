-- What a change to a row does to the queues.
use Rattle.std.proofs.Common.{◌≡◌, ◌≢◌, ℕ, true, false, cond, not, ◌==◌, List, [], ◌∷◌, ◌++◌, Some, refl, ap}
use Rattle.std.specs.Prelude.{filter, find, slice_get}
use Rattle.std.specs.Option.{option_map}
use Rattle.row_store.specs.declared.Row.{Row}
use Rattle.row_store.specs.Rows.{row_numbers, is_row, is_in_queue, queue_of}
use Rattle.row_store.specs.inner.Rows.{without, front_of, changed_at, unlinked, with_item}
use Rattle.row_store.proofs.Bits.{bit_at-without_same, bit_at-without_other}

pub front_of-queue_of : {T : Type 0} (rows : List (Row T)) (d : ℕ) → front_of d rows ≡ slice_get (queue_of d rows) 0
front_of-queue_of [] d = refl
front_of-queue_of {T} (row ∷ rows) d = elim (is_in_queue d row) as (λ b. option_map (λ (r : Row T). r.number) (cond b (Some row) (find (is_in_queue d) rows)) ≡ slice_get (row_numbers (cond b (row ∷ filter (is_in_queue d) rows) (filter (is_in_queue d) rows))) 0)
    [ true ↦ refl | false ↦ front_of-queue_of rows d ]

pub left-queue : {T : Type 0} (row : Row T) (d : ℕ) → is_in_queue d (record row { mask = without d row.mask }) ≡ false
left-queue row d = rw (bit_at-without_same row.mask d) refl

pub kept-queue : {T : Type 0} (row : Row T) (d e : ℕ) → e ≢ d → is_in_queue e (record row { mask = without d row.mask }) ≡ is_in_queue e row
kept-queue row d e other = rw (bit_at-without_other row.mask d e other) refl

-- a change that keeps the number and a queue's bit keeps that queue
pub queue_of-changed_at : {T : Type 0} (number d : ℕ) (change : Row T → Row T) → ((row : Row T) → (change row).number ≡ row.number) → ((row : Row T) → is_in_queue d (change row) ≡ is_in_queue d row)
    → (rows : List (Row T)) → queue_of d (changed_at number change rows) ≡ queue_of d rows
queue_of-changed_at number d change same keeps [] = refl
queue_of-changed_at {T} number d change same keeps (row ∷ rows) =
    let rest = queue_of-changed_at number d change same keeps rows in
    elim (is_row number row) as (λ b. queue_of d (cond b (change row) row ∷ changed_at number change rows) ≡ queue_of d (row ∷ rows)) [
      | true ↦ rw (keeps row) (elim (is_in_queue d row) as (λ b. row_numbers (cond b (change row ∷ filter (is_in_queue d) (changed_at number change rows)) (filter (is_in_queue d) (changed_at number change rows))) ≡ row_numbers (cond b (row ∷ filter (is_in_queue d) rows) (filter (is_in_queue d) rows)))
          [ true ↦ rw (same row, rest) refl | false ↦ rest ])
      | false ↦ elim (is_in_queue d row) as (λ b. row_numbers (cond b (row ∷ filter (is_in_queue d) (changed_at number change rows)) (filter (is_in_queue d) (changed_at number change rows))) ≡ row_numbers (cond b (row ∷ filter (is_in_queue d) rows) (filter (is_in_queue d) rows)))
          [ true ↦ rw rest refl | false ↦ rest ]
    ]

pub queue_of-unlinked_other : {T : Type 0} (rows : List (Row T)) (number d e : ℕ) → e ≢ d → queue_of e (unlinked number d rows) ≡ queue_of e rows
queue_of-unlinked_other rows number d e other = queue_of-changed_at number e (λ row. record row { mask = without d row.mask }) (λ row. refl) (λ row. kept-queue row d e other) rows

pub queue_of-with_item : {T : Type 0} (rows : List (Row T)) (number d : ℕ) (item : T) → queue_of d (with_item number item rows) ≡ queue_of d rows
queue_of-with_item rows number d item = queue_of-changed_at number d (λ row. record row { item = item }) (λ row. refl) (λ row. refl) rows

pub queue_of-unlinked : {T : Type 0} (rows : List (Row T)) (number d : ℕ) → queue_of d (unlinked number d rows) ≡ filter (λ k. not (k == number)) (queue_of d rows)
queue_of-unlinked [] number d = refl
queue_of-unlinked {T} (row ∷ rows) number d =
    let rest = queue_of-unlinked rows number d in
    let gone : Row T = record row { mask = without d row.mask } in
    elim (is_row number row) as (λ b. is_row number row ≡ b → queue_of d (cond b gone row ∷ unlinked number d rows) ≡ filter (λ k. not (k == number)) (queue_of d (row ∷ rows))) [
      | true ↦ λ named. rw (left-queue row d) (elim (is_in_queue d row) as (λ b. queue_of d (unlinked number d rows) ≡ filter (λ k. not (k == number)) (row_numbers (cond b (row ∷ filter (is_in_queue d) rows) (filter (is_in_queue d) rows))))
          [ true ↦ rw named rest | false ↦ rest ])
      | false ↦ λ named. elim (is_in_queue d row) as (λ b. row_numbers (cond b (row ∷ filter (is_in_queue d) (unlinked number d rows)) (filter (is_in_queue d) (unlinked number d rows))) ≡ filter (λ k. not (k == number)) (row_numbers (cond b (row ∷ filter (is_in_queue d) rows) (filter (is_in_queue d) rows))))
          [ true ↦ rw named (ap (λ ks. row.number ∷ ks) rest) | false ↦ rest ]
    ] refl

pub queue_of-pushed : {T : Type 0} (rows : List (Row T)) (row : Row T) (d : ℕ) → queue_of d (rows ++ row ∷ []) ≡ cond (is_in_queue d row) (queue_of d rows ++ row.number ∷ []) (queue_of d rows)
queue_of-pushed [] row d = elim (is_in_queue d row) as (λ b. row_numbers (cond b (row ∷ []) []) ≡ cond b (row.number ∷ []) []) [ true ↦ refl | false ↦ refl ]
queue_of-pushed {T} (first ∷ rows) row d =
    let rest = queue_of-pushed rows row d in
    elim (is_in_queue d first) as (λ b. row_numbers (cond b (first ∷ filter (is_in_queue d) (rows ++ row ∷ [])) (filter (is_in_queue d) (rows ++ row ∷ []))) ≡ cond (is_in_queue d row) (row_numbers (cond b (first ∷ filter (is_in_queue d) rows) (filter (is_in_queue d) rows)) ++ row.number ∷ []) (row_numbers (cond b (first ∷ filter (is_in_queue d) rows) (filter (is_in_queue d) rows)))) [
      | true ↦ rw rest (elim (is_in_queue d row) as (λ b. first.number ∷ cond b (queue_of d rows ++ row.number ∷ []) (queue_of d rows) ≡ cond b (first.number ∷ queue_of d rows ++ row.number ∷ []) (first.number ∷ queue_of d rows)) [ true ↦ refl | false ↦ refl ])
      | false ↦ rest
    ]
