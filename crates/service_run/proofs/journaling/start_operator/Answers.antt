use mathlib.Core.List.{[]}
use denote.Exit.{no}
use denote.Param.{param}
use denote.Param.Send.{arg_send, param_send}
use Rattle.service_run.specs.contracts.journaling.Operation as Operation
use Rattle.service_run.proofs.journaling.Operation.TheSendSync as operation
use Rattle.service_run.proofs.Crossing.{at_place_send}
use Rattle.service_run.proofs.journaling.start_operator.Goals as goal

pub spawn_scoped-requires-send-F : goal.spawn_scoped-requires-send-F
spawn_scoped-requires-send-F g c κs within =
    let b = c.type_bounds in
    param_send 1 _ (arg_send _ no _ (
    at_place_send (param 1 g.row.A) (param 2 g.row.H) g.A.Sharing g.A.Naming
    _ _ _ _ _ _ (Operation.the_row _ (param 1 g.row.A) g.A.Sharing g.A.Naming) []
    b.sync-H (operation.the_sync _ (param 1 g.row.A) g.A.Sharing g.A.Naming) tt
    ))
