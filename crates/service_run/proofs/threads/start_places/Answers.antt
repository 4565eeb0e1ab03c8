use mathlib.Core.List.{[], ◌∷◌}
use denote.Exit.{no}
use denote.Param.{param}
use denote.Param.Send.{arg_send, param_send, shr_send}
use denote.Ref.{ShrRef}
use Rattle.service_workers.specs.contracts.gate.Gate as Gate
use Rattle.service_workers.specs.contracts.place.Place as Place
use Rattle.service_workers.proofs.gate.Gate.TheSendSync as gate
use Rattle.service_workers.proofs.place.Place.TheSendSync as place
use Rattle.service_run.proofs.Crossing.{at_place_send}
use Rattle.service_run.proofs.threads.start_places.Goals as goal

pub spawn_scoped-started-requires-send-F : goal.spawn_scoped-started-requires-send-F
spawn_scoped-started-requires-send-F g c κs within =
    let b = c.type_bounds in
    param_send 1 _ (arg_send _ no _ (
    at_place_send (param 1 g.row.A) (param 2 g.row.H) g.A.Sharing g.A.Naming
    _ _ _ _ _ _ Gate.the_row (ShrRef _ _ (Place.the_row (param 1 g.row.A) g.A.Sharing g.A.Naming) ∷ [])
    b.sync-H gate.the_sync (shr_send _ _ _ (place.the_sync (param 1 g.row.A) g.A.Sharing g.A.Naming), tt)
    ))
