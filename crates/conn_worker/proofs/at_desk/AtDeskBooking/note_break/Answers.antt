use Rattle.conn_worker.specs.inner.Arriving.{desk_nothing}
use Rattle.conn_worker.proofs.at_desk.AtDeskBooking.note_break.Goals as goal

pub returns-in-Ok : goal.returns-in-Ok
returns-in-Ok g c = desk_nothing g.A.Sharing.opening c.args.self.now.desk.now c.args.self.now.desk.ghost_name

pub returns-in_default : goal.returns-in_default
returns-in_default g c = desk_nothing g.A.Sharing.opening c.args.self.now.desk.now c.args.self.now.desk.ghost_name
