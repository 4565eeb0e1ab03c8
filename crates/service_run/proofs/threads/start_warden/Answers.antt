use mathlib.Core.List.{[]}
use denote.Exit.{no}
use denote.Param.{param}
use denote.Param.Send.{arg_send, param_send}
use Rattle.service_run.proofs.Crossing.{at_site_send}
use Rattle.service_run.proofs.threads.start_warden.Goals as goal

pub spawn_scoped-requires-send-F : goal.spawn_scoped-requires-send-F
spawn_scoped-requires-send-F g c κs within =
    let b = c.type_bounds in
    param_send 1 _ (arg_send _ no _ (
    at_site_send (param 1 g.row.A) (param 2 g.row.H) g.A.Sharing g.A.Naming
    _ _ _ _ [] b.sync-H tt
    ))
