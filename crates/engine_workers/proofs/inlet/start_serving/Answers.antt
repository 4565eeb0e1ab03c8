use mathlib.Core.List.{[], ◌∷◌}
use denote.Exit.{no}
use denote.Param.{param, copied}
use denote.Param.Send.{arg_send, param_send, copied_sync}
use Rattle.engine_workers.specs.contracts.loan.TakeCell as TakeCell
use Rattle.engine_workers.specs.contracts.connection_work.ConnectionWork as ConnectionWork
use Rattle.engine_workers.proofs.loan.TakeCell.TheSendSync as loan
use Rattle.engine_workers.proofs.connection_work.ConnectionWork.TheSendSync as connection
use Rattle.engine_workers.proofs.Crossing.{at_place_send}
use Rattle.engine_workers.proofs.inlet.start_serving.Goals as goal

pub spawn_scoped-requires-send-F : goal.spawn_scoped-requires-send-F
spawn_scoped-requires-send-F g c κs within =
    let b = c.type_bounds in
    let Place = ConnectionWork.the_row (param 1 g.row.A) g.A.Sharing g.A.Naming in
    param_send 1 _ (arg_send _ no _ (
    at_place_send (param 1 g.row.A) (param 2 g.row.S) (copied 3 g.row.C) (param 4 g.row.H)
    g.A.Sharing g.A.Naming g.S.RowStore _ _ _ _ _ _ (TakeCell.the_row Place) (param 5 g.row.R ∷ param 6 g.row.W ∷ [])
    b.send-S (copied_sync 3 _ b.sync-C) b.sync-H (loan.the_sync Place (connection.the_send _ _ _)) (b.send-R, (b.send-W, tt))
    ))
