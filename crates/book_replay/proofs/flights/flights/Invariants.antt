use Rattle.std.proofs.Common.{◌≡◌}
use Rattle.std.specs.List.{filter_map, range_with_len}
use Rattle.book_replay.specs.inner.Flights.{flight_at}
use Rattle.book_replay.proofs.flights.flights.Given as goal

abbrev pub invariant-loop-d : goal.invariant-loop-d
invariant-loop-d g l = record {
  found : l.found.items ≡ filter_map (flight_at l.fn.book) (range_with_len 0 l.d);
  unchanged : l.book ≡ l.fn.book;
}
