use Rattle.std.proofs.Common.{◌≤◌, subst}
use Rattle.book_lock.specs.Shares.{DeskView}
use Rattle.book_lock.specs.inner.Counts.{count_in, is_arrival}
use Rattle.book_lock.proofs.HandedIn.{counts_few}
use Rattle.book_lock.proofs.desks.Desk.audit.Goals as goal

pub returns-clause-bound : goal.returns-clause-bound
returns-clause-bound g c =
    subst (λ (d : DeskView). d.made ≤ count_in is_arrival c.args.log.now.0) c.self.view_is
    (counts_few is_arrival c.self.inside.made c.self.inside.seat.0 c.self.inside.seat.1 c.args.log.now.0 c.self.invariant.1 c.audit.ensures.agreed)
