use Rattle.std.proofs.Common.{◌≡◌}
use Rattle.std.specs.Prelude.{filter}
use Rattle.std.specs.List.{range_with_len}
use Rattle.event_log.specs.History.{is_queued}
use Rattle.sequential_book.proofs.engine.SequentialBook.queue.Given as goal

abbrev pub invariant-loop-number : goal.invariant-loop-number
invariant-loop-number l = l.queue.items ≡ filter (is_queued l.self l.d) (range_with_len 0 l.number)
