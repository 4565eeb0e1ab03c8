use Rattle.std.proofs.Common.{◌≡◌, ◌≤◌, not, nat_lt}
use Rattle.std.specs.Prelude.{filter}
use Rattle.book_core.proofs.pruning.forget_rows.Given as goal

abbrev pub invariant-loop-number : goal.invariant-loop-number
invariant-loop-number g l =
    (g.S.RowStore.rows l.rows ≡ filter (λ row. not (nat_lt row.number l.number)) (g.S.RowStore.rows l.initial.rows))
    × (l.before ≤ l.first → l.number ≡ l.first)
