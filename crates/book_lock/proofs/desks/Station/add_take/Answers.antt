use Rattle.std.proofs.Common.{arith}
use Rattle.book_lock.specs.inner.Counts.{is_take}
use Rattle.book_lock.proofs.HandedIn.{count_fits}
use Rattle.book_lock.proofs.desks.Station.add_take.Goals as goal

pub overflow_add-self : goal.overflow_add-self
overflow_add-self g c =
    let few = count_fits is_take c.self.inside.taken c.self.inside.seat.0 c.self.inside.seat.1 c.args.log.now.0 c.self.invariant.2 c.push.ensures.agreed c.requires in
    record { fits = omega (arith, few) }
