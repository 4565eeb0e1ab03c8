use Rattle.std.proofs.Common.{◌≡◌, ◌++◌, All, map, vec_len}
use Rattle.book_lock.specs.Shares.{DeskView}
use Rattle.book_lock.specs.inner.Counts.{count_of, is_arrival}
use Rattle.book_lock.specs.inner.Log.{desk_seat}
use Rattle.book_lock.proofs.desks.hand_in_desks.Given as goal

abbrev pub invariant-loop-desk : goal.invariant-loop-desk
invariant-loop-desk g l =
    (l.roll.0 ≡ l.initial.roll.0) × (l.roll.1 ≡ l.initial.roll.1)
    × (map desk_seat l.initial.desks.items ++ l.initial.roll.2 ≡ map desk_seat l.desks.items ++ l.roll.2)
    × (All (λ (d : DeskView). d.made ≡ count_of is_arrival d.seat.number d.seat.seen) l.desks.items → All (λ (d : DeskView). d.made ≡ count_of is_arrival d.seat.number d.seat.seen) l.initial.desks.items)

abbrev pub decreases-loop-desk : goal.decreases-loop-desk
decreases-loop-desk g l = vec_len l.desks
