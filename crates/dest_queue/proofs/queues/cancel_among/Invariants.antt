use Rattle.std.proofs.Common.{◌≡◌, ◌==◌, filter, fold}
use Rattle.std.specs.Int.{bit_at}
use Rattle.std.specs.List.{range_with_len}
use Rattle.row_store.specs.inner.Rows.{unlinked}
use Rattle.dest_queue.proofs.queues.cancel_among.Given as goal

abbrev pub invariant-loop-d : goal.invariant-loop-d
invariant-loop-d g l = g.S.RowStore.rows l.rows ≡ fold (λ rows d. unlinked l.number d rows) (g.S.RowStore.rows l.initial.rows) (filter (λ d. bit_at l.mask d == 1) (range_with_len 0 l.d))
