use Rattle.engine_workers.proofs.Unused.{unused_seats}
use Rattle.worker_tests.proofs.runs.run.Goals as goal

pub invariant_of-staff : goal.invariant_of-staff
invariant_of-staff g c = record {
  unused_desks = unused_seats (λ d. d.seat) c.in-Ok.field-0.desks.items 0 2 c.in-Ok.ensures.seats.0;
  unused_stations = unused_seats (λ s. s.seat) c.in-Ok.field-0.stations.items 2 2 c.in-Ok.ensures.seats.1;
  links_in_order = c.requires.links;
}
