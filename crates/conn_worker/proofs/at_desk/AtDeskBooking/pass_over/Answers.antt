use Rattle.conn_worker.specs.inner.Arriving.{desk_nothing}
use Rattle.conn_worker.proofs.at_desk.AtDeskBooking.pass_over.Goals as goal

pub returns : goal.returns
returns g c = desk_nothing g.A.Sharing.opening c.args.self.now.desk.now c.args.self.now.desk.ghost_name
