use Rattle.std.proofs.Common.{◌≡◌, ◌-◌}
use Rattle.event_records.specs.inner.Decoding.{records_at}
use Rattle.event_records.proofs.Loop.{with_front}
use Rattle.event_records.proofs.reading.records_of.Given as goal

abbrev pub invariant-loop : goal.invariant-loop
invariant-loop l = with_front l.records.items (records_at (l.count - l.counter) l.rest) ≡ records_at l.count l.bytes
