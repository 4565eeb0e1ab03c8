use mathlib.Core.List.{[], ◌∷◌}
use denote.Exit.{no}
use denote.Param.{param}
use denote.Param.Send.{arg_send, param_send}
use Rattle.service_web.specs.contracts.door.Door as Door
use Rattle.service_web.proofs.door.Door.TheSendSync as door
use Rattle.service_run.specs.contracts.figures.Watch as Watch
use Rattle.service_run.proofs.figures.Watch.TheSendSync as watch
use Rattle.service_run.proofs.Crossing.{at_place_send}
use Rattle.service_run.proofs.threads.start_answers.Goals as goal

pub spawn_scoped-requires-send-F : goal.spawn_scoped-requires-send-F
spawn_scoped-requires-send-F g c κs within =
    let b = c.type_bounds in
    param_send 1 _ (arg_send _ no _ (
    at_place_send (param 1 g.row.A) (param 2 g.row.H) g.A.Sharing g.A.Naming
    _ _ _ _ _ _ Door.the_row (Watch.the_row _ ∷ [])
    b.sync-H door.the_sync (watch.the_send _, tt)
    ))
