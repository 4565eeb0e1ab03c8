use mathlib.Core.List.{[]}
use denote.Exit.{no}
use denote.Param.{param, copied}
use denote.Param.Send.{arg_send, param_send, copied_sync}
use Rattle.engine_workers.specs.contracts.loan.TakeCell as TakeCell
use Rattle.engine_workers.specs.contracts.outlet.DestinationWork as DestinationWork
use Rattle.engine_workers.proofs.loan.TakeCell.TheSendSync as loan
use Rattle.engine_workers.proofs.outlet.DestinationWork.TheSendSync as outlet
use Rattle.engine_workers.proofs.Crossing.{at_place_send}
use Rattle.engine_workers.proofs.outlet.start_delivering.Goals as goal

pub spawn-requires-send-F : goal.spawn-requires-send-F
spawn-requires-send-F g c κs within =
    let b = c.type_bounds in
    let Place = DestinationWork.the_row (param 1 g.row.A) (param 5 g.row.L) g.A.Sharing g.A.Naming g.L.Link in
    param_send 1 _ (arg_send _ no _ (
    at_place_send (param 1 g.row.A) (param 2 g.row.S) (copied 3 g.row.C) (param 4 g.row.H)
    g.A.Sharing g.A.Naming g.S.RowStore _ _ _ _ _ _ (TakeCell.the_row Place) []
    b.send-S (copied_sync 3 _ b.sync-C) b.sync-H (loan.the_sync Place (outlet.the_send _ _ _ _ _ b.send-L)) tt
    ))
