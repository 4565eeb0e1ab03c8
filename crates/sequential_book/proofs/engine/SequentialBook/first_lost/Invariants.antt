use Rattle.std.proofs.Common.{◌≡◌, ◌-◌}
use Rattle.std.specs.Prelude.{find}
use Rattle.std.specs.List.{range_with_len}
use Rattle.event_log.specs.Deployment.{is_lost}
use Rattle.sequential_book.proofs.engine.SequentialBook.first_lost.Given as goal

abbrev pub invariant-loop-d : goal.invariant-loop-d
invariant-loop-d l = find (is_lost l.self l.plan) (range_with_len l.d (32 - l.d)) ≡ find (is_lost l.self l.plan) (range_with_len 0 32)
