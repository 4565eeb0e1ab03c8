use Rattle.std.proofs.Common.{◌≡◌, ◌-◌, ◌≤◌}
use Rattle.std.specs.List.{filter_map, range_with_len}
use Rattle.book_core.specs.inner.Questions.{failed_as}
use Rattle.book_core.proofs.book.Book.failed_among.Given as goal

abbrev pub invariant-loop-number : goal.invariant-loop-number
invariant-loop-number g l =
    (l.found.items ≡ filter_map (failed_as l.self l.d) (range_with_len l.from (l.number - l.from)))
    × (l.to ≤ l.from → l.number ≡ l.from)
