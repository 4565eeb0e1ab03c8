use Rattle.std.proofs.Common.{◌≡◌, ◌-◌, ◌++◌}
use Rattle.book_core.specs.inner.Pruning.{since}
use Rattle.book_core.proofs.Remembering.{kept_of}
use Rattle.book_core.proofs.pruning.recall_entries.Given as goal

abbrev pub invariant-loop-place : goal.invariant-loop-place
invariant-loop-place g l = l.kept.items ≡ l.initial.kept.items
    ++ since l.floor (kept_of l.log.history l.log.history.opening.places (l.place - l.log.history.opening.places))
