use Rattle.conn_worker.specs.inner.Arriving.{desk_nothing}
use Rattle.conn_worker.proofs.at_desk.AtDeskBooking.persist.Goals as goal

pub returns-clause-unbooked : goal.returns-clause-unbooked
returns-clause-unbooked g c = desk_nothing g.A.Sharing.opening c.args.self.now.desk.now c.args.self.now.desk.ghost_name
