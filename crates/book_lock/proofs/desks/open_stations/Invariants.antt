use Rattle.std.proofs.Common.{◌≡◌, ◌+◌, All, map, vec_len, vec_capacity}
use Rattle.book_lock.specs.inner.Shares.{no_calls}
use Rattle.book_lock.specs.inner.Log.{new_seats}
use Rattle.book_lock.proofs.desks.open_stations.Given as goal

abbrev pub invariant-loop : goal.invariant-loop
invariant-loop g l =
    (vec_len l.stations ≡ l.counter) × (vec_capacity l.stations ≡ l.count)
    × All (λ s. s.counts ≡ no_calls) l.stations.items
    × (l.log ≡ (l.initial.log.0, l.initial.log.1 + l.counter)) × (map (λ s. s.seat) l.stations.items ≡ new_seats l.initial.log.1 l.counter)
