use Rattle.std.proofs.Common.{◌≡◌, ℕ, true, false, cond, List, [], ◌∷◌, refl}
use Rattle.std.specs.Prelude.{find}
use Rattle.std.specs.Option.{option_map}
use Rattle.std.specs.declared.option.Option.TheVariants.{Some}
use Rattle.row_store.specs.declared.Row.{Row}
use Rattle.row_store.specs.Rows.{is_row, item_at}
use Rattle.row_store.specs.inner.Rows.{unlinked, without}
use Rattle.row_store.proofs.Places.{numbers-changed_at}
use Rattle.row_store.proofs.QueueLaws.{queue_of-unlinked_other}
use Rattle.record_list.proofs.link_rules.Goals as goal

items-unlinked : {T : Type 0} (rows : List (Row T)) (number d other : ℕ) → item_at other (unlinked number d rows) ≡ item_at other rows
items-unlinked [] number d other = refl
items-unlinked {T} (row ∷ rows) number d other =
    let rest = items-unlinked rows number d other in
    let named : is_row other (cond (is_row number row) (record row { mask = without d row.mask }) row) ≡ is_row other row =
    elim (is_row number row) as (λ b. is_row other (cond b (record row { mask = without d row.mask }) row) ≡ is_row other row) [ true ↦ refl | false ↦ refl ] in
    let item : (cond (is_row number row) (record row { mask = without d row.mask }) row).item ≡ row.item =
    elim (is_row number row) as (λ b. (cond b (record row { mask = without d row.mask }) row).item ≡ row.item) [ true ↦ refl | false ↦ refl ] in
    rw named (elim (is_row other row) as (λ b. option_map (λ (r : Row T). r.item) (cond b (Some (cond (is_row number row) (record row { mask = without d row.mask }) row)) (find (is_row other) (unlinked number d rows))) ≡ option_map (λ (r : Row T). r.item) (cond b (Some row) (find (is_row other) rows)))
    [ true ↦ rw item refl | false ↦ rest ])

pub returns-clause-other_queues : goal.returns-clause-other_queues
returns-clause-other_queues g c = queue_of-unlinked_other

pub returns-clause-items : goal.returns-clause-items
returns-clause-items g c = items-unlinked

pub returns-clause-all_rows : goal.returns-clause-all_rows
returns-clause-all_rows g c = λ rows number d. numbers-changed_at number (λ row. record row { mask = without d row.mask }) (λ row. refl) rows
