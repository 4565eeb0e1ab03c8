use Rattle.std.proofs.Common.{◌≡◌, drop, map}
use Rattle.opening_records.specs.inner.Decoding.{climb_from}
use Rattle.opening_records.proofs.checks.places_climb.Given as goal

abbrev pub invariant-loop-item : goal.invariant-loop-item
invariant-loop-item l = climb_from l.low (map (λ r. r.place) (drop l.item-index l.items)) ≡ climb_from 0 (map (λ r. r.place) l.items)
