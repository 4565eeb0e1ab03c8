use Rattle.std.proofs.Common.{◌≡◌, ◌-◌}
use Rattle.opening_records.specs.inner.Decoding.{many_at, delivery_at}
use Rattle.opening_records.proofs.Loop.{with_front}
use Rattle.opening_records.proofs.parts.deliveries_of.Given as goal

abbrev pub invariant-loop : goal.invariant-loop
invariant-loop l = with_front l.items.items (many_at (λ bytes. delivery_at l.raw bytes) (l.count - l.counter) l.rest) ≡ many_at (λ bytes. delivery_at l.raw bytes) l.count l.bytes
