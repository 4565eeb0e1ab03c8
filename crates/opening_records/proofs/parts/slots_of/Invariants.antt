use Rattle.std.proofs.Common.{◌≡◌, ◌-◌}
use Rattle.opening_records.specs.inner.Decoding.{many_at, slot_at}
use Rattle.opening_records.proofs.Loop.{with_front}
use Rattle.opening_records.proofs.parts.slots_of.Given as goal

abbrev pub invariant-loop : goal.invariant-loop
invariant-loop l = with_front l.slots (many_at slot_at (l.count - l.counter) l.rest) ≡ many_at slot_at l.count l.bytes
