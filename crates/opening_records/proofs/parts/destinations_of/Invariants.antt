use Rattle.std.proofs.Common.{◌≡◌, ◌-◌}
use Rattle.opening_records.specs.inner.Decoding.{many_at, destination_at}
use Rattle.opening_records.proofs.Loop.{with_front}
use Rattle.opening_records.proofs.parts.destinations_of.Given as goal

abbrev pub invariant-loop : goal.invariant-loop
invariant-loop l = with_front l.items.items (many_at destination_at (l.count - l.counter) l.rest) ≡ many_at destination_at l.count l.bytes
