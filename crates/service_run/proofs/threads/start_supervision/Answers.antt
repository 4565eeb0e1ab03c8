use mathlib.Core.List.{[], ◌∷◌}
use denote.Exit.{no}
use denote.Param.{param}
use denote.Param.Send.{arg_send, param_send}
use Rattle.notify_socket.specs.contracts.socket.NotifySocket as NotifySocket
use Rattle.notify_socket.proofs.socket.NotifySocket.TheSendSync as manager
use Rattle.service_run.specs.contracts.figures.Watch as Watch
use Rattle.service_run.proofs.figures.Watch.TheSendSync as watch
use Rattle.service_run.proofs.Crossing.{at_place_send}
use Rattle.service_run.proofs.threads.start_supervision.Goals as goal

pub spawn_scoped-requires-send-F : goal.spawn_scoped-requires-send-F
spawn_scoped-requires-send-F g c κs within =
    let b = c.type_bounds in
    param_send 1 _ (arg_send _ no _ (
    at_place_send (param 1 g.row.A) (param 2 g.row.H) g.A.Sharing g.A.Naming
    _ _ _ _ _ _ NotifySocket.the_row (Watch.the_row _ ∷ [])
    b.sync-H manager.the_sync (watch.the_send _, tt)
    ))
