use Rattle.delivery_worker.proofs.Unused.{unused_seats}
use Rattle.service_run.proofs.stored.stage_of.Goals as goal

pub new-requires : goal.new-requires
new-requires g c = unused_seats (λ s. s.seat) c.in-Ok.field-0.stations.items c.args.desks 32 c.in-Ok.ensures.seats.1
