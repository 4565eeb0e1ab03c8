use Rattle.std.proofs.Common.{◌≡◌, ◌++◌, All, map, vec_len}
use Rattle.book_lock.specs.Shares.{StationView}
use Rattle.book_lock.specs.inner.Counts.{count_of, is_take, is_settlement}
use Rattle.book_lock.specs.inner.Log.{station_seat}
use Rattle.book_lock.proofs.desks.hand_in_stations.Given as goal

abbrev pub invariant-loop-station : goal.invariant-loop-station
invariant-loop-station g l =
    (l.roll.0 ≡ l.initial.roll.0) × (l.roll.1 ≡ l.initial.roll.1)
    × (map station_seat l.initial.stations.items ++ l.initial.roll.2 ≡ map station_seat l.stations.items ++ l.roll.2)
    × (All (λ (d : StationView). d.counts.takes ≡ count_of is_take d.seat.number d.seat.seen) l.stations.items → All (λ (d : StationView). d.counts.takes ≡ count_of is_take d.seat.number d.seat.seen) l.initial.stations.items)
    × (All (λ (d : StationView). d.counts.settlements ≡ count_of is_settlement d.seat.number d.seat.seen) l.stations.items → All (λ (d : StationView). d.counts.settlements ≡ count_of is_settlement d.seat.number d.seat.seen) l.initial.stations.items)

abbrev pub decreases-loop-station : goal.decreases-loop-station
decreases-loop-station g l = vec_len l.stations
