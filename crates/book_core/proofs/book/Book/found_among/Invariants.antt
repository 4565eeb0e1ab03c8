use Rattle.std.proofs.Common.{◌≡◌, ◌-◌, ◌≤◌}
use Rattle.std.specs.Prelude.{filter}
use Rattle.std.specs.List.{range_with_len}
use Rattle.book_core.specs.inner.Questions.{has_control_id}
use Rattle.book_core.proofs.book.Book.found_among.Given as goal

abbrev pub invariant-loop-number : goal.invariant-loop-number
invariant-loop-number g l =
    (l.found.items ≡ filter (has_control_id l.self l.id) (range_with_len l.from (l.number - l.from)))
    × (l.to ≤ l.from → l.number ≡ l.from)
