use Rattle.std.proofs.Common.{refl}
use Rattle.conn_worker.specs.inner.Arriving.{desk_looked, desk_nothing, known_durably}
use Rattle.service_workers.proofs.at_place.AtPlaceBooking.persist.Goals as goal

pub returns-then-not-self-clause-unbooked : goal.returns-then-not-self-clause-unbooked
returns-then-not-self-clause-unbooked g c = desk_nothing g.A.Sharing.opening c.args.self.now.desk.now c.args.self.now.desk.ghost_name

pub returns-in-Ok-clause-unbooked : goal.returns-in-Ok-clause-unbooked
returns-in-Ok-clause-unbooked g c =
    let desk = c.args.self.now.desk in
    desk_looked g.A.Sharing.opening desk.now c.wait_durable.new.desk desk.ghost_name desk.ghost_name c.wait_durable.ensures.looks c.wait_durable.ensures.made refl

pub returns-in-Err-clause-unbooked : goal.returns-in-Err-clause-unbooked
returns-in-Err-clause-unbooked g c =
    let desk = c.args.self.now.desk in
    desk_looked g.A.Sharing.opening desk.now c.wait_durable.new.desk desk.ghost_name desk.ghost_name c.wait_durable.ensures.looks c.wait_durable.ensures.made refl

pub returns-then-not-self-clause-outlives : goal.returns-then-not-self-clause-outlives
returns-then-not-self-clause-outlives g c channel raw known stored = absurd cc

pub returns-in-Ok-clause-outlives : goal.returns-in-Ok-clause-outlives
returns-in-Ok-clause-outlives g c channel raw known stored =
    let desk = c.args.self.now.desk in
    known_durably g.A.Sharing.opening desk.now.seat c.wait_durable.new.desk.seat channel raw c.wait_durable.ensures.looks c.in-Ok.ensures.all known
