use Rattle.std.proofs.Common.{arith}
use Rattle.book_lock.specs.inner.Counts.{is_arrival}
use Rattle.book_lock.proofs.HandedIn.{count_fits}
use Rattle.book_lock.proofs.desks.Desk.add_arrival.Goals as goal

pub overflow_add-self : goal.overflow_add-self
overflow_add-self g c =
    let few = count_fits is_arrival c.self.inside.made c.self.inside.seat.0 c.self.inside.seat.1 c.args.log.now.0 c.self.invariant.1 c.push.ensures.agreed c.requires in
    record { fits = omega (arith, few) }
