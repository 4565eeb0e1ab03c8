use Rattle.std.proofs.Common.{refl}
use Rattle.conn_worker.specs.inner.Arriving.{desk_looked}
use Rattle.conn_worker.proofs.at_desk.AtDeskBooking.plan.Goals as goal

pub returns-clause-unbooked : goal.returns-clause-unbooked
returns-clause-unbooked g c =
    let desk = c.args.self.now.desk in
    desk_looked g.A.Sharing.opening desk.now c.plan_at.new.desk desk.ghost_name desk.ghost_name c.plan_at.ensures.looks c.plan_at.ensures.made refl
