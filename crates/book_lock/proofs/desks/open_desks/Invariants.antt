use Rattle.std.proofs.Common.{◌≡◌, ◌+◌, All, map, vec_len, vec_capacity}
use Rattle.book_lock.specs.inner.Log.{new_seats}
use Rattle.book_lock.proofs.desks.open_desks.Given as goal

abbrev pub invariant-loop : goal.invariant-loop
invariant-loop g l =
    (vec_len l.desks ≡ l.counter) × (vec_capacity l.desks ≡ l.count)
    × All (λ d. d.made ≡ 0) l.desks.items
    × (l.log ≡ (l.initial.log.0, l.initial.log.1 + l.counter)) × (map (λ d. d.seat) l.desks.items ≡ new_seats l.initial.log.1 l.counter)
