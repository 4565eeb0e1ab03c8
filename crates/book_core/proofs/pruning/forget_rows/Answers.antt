use Rattle.std.proofs.Common.{◌≡◌, inl, inr, not, nat_lt, refl, sym, ◌∙◌, ap, arith}
use Rattle.std.specs.Prelude.{filter}
use Rattle.row_store.specs.inner.Rows.{removed}
use Rattle.event_log.proofs.OneMore.{lt-tells}
use Rattle.book_core.proofs.PrunedRows.{dropped-next, none-dropped}
use Rattle.book_core.proofs.pruning.forget_rows.Goals as goal

pub loop-number-init : goal.loop-number-init
loop-number-init g c = (none-dropped c.args.first c.args.first (g.S.RowStore.rows c.args.rows.now) (omega arith) c.requires, λ less. refl)

pub loop-number-preserved : goal.loop-number-preserved
loop-number-preserved g c = (
  c.remove-forgotten.ensures.removed ∙ (ap (removed c.loop-number.number) c.loop-number.invariant.0
      ∙ dropped-next c.loop-number.number (g.S.RowStore.rows c.args.rows.now)),
  λ less. omega arith,
)

pub returns : goal.returns
returns g c =
    let rows = g.S.RowStore.rows c.args.rows.now in
    elim (lt-tells c.args.before c.args.first) [
      | inl w ↦
          let below = w.1 in
          let last = c.loop-number.invariant.1 (omega arith) in
          c.loop-number.invariant.0
          ∙ (ap (λ n. filter (λ row. not (nat_lt row.number n)) rows) last
          ∙ (sym (none-dropped c.args.first c.args.first rows (omega arith) c.requires)
          ∙ none-dropped c.args.first c.args.before rows (omega arith) c.requires))
      | inr w ↦
          let from = w.1 in
          let last : c.loop-number.number ≡ c.args.before = omega arith in
          c.loop-number.invariant.0 ∙ ap (λ n. filter (λ row. not (nat_lt row.number n)) rows) last
    ]
