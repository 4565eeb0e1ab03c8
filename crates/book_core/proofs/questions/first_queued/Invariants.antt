use Rattle.std.proofs.Common.{◌≡◌}
use Rattle.event_log.specs.History.{History}
use Rattle.book_core.specs.inner.Parts.{RowsAgree}
use Rattle.book_core.proofs.FirstLive.{first_below}
use Rattle.book_core.proofs.questions.first_queued.Given as goal

abbrev pub invariant-loop-d : goal.invariant-loop-d
invariant-loop-d g l =
    (g.S.RowStore.rows l.rows ≡ g.S.RowStore.rows l.initial.rows)
    × ((h : History) → RowsAgree h (g.S.RowStore.rows l.initial.rows) → l.first ≡ first_below h l.d)
