use Rattle.std.proofs.Common.{◌≡◌, ◌-◌}
use Rattle.std.specs.Prelude.{find}
use Rattle.std.specs.List.{range_with_len}
use Rattle.event_log.specs.History.{is_queued}
use Rattle.book_core.proofs.book.Book.live_at.Given as goal

abbrev pub invariant-loop-d : goal.invariant-loop-d
invariant-loop-d g l =
    find (λ d. is_queued l.self d l.number) (range_with_len l.d (32 - l.d)) ≡ find (λ d. is_queued l.self d l.number) (range_with_len 0 32)
