use mathlib.Core.List.{[], ◌∷◌}
use denote.Exit.{no}
use denote.Param.{param, copied}
use denote.Struct.Tuple.{Tuple}
use denote.Param.Send.{sendable, arg_send, param_send, copied_sync}
use Rattle.std.proofs.Crossing.{crosses}
use Rattle.std.below.core.specs.contracts.marker.ClosureMark as ClosureMark
use Rattle.engine_workers.specs.contracts.inlet.ChannelWork as ChannelWork
use Rattle.engine_workers.proofs.inlet.ChannelWork.TheSendSync as inlet
use Rattle.engine_workers.proofs.Crossing.{at_place_send}
use Rattle.engine_workers.proofs.inlet.start_opening.Goals as goal

pub spawn-requires-send-F : goal.spawn-requires-send-F
spawn-requires-send-F g c κs within =
    let b = c.type_bounds in
    param_send 1 _ (arg_send _ no _ (
    at_place_send (param 1 g.row.A) (param 2 g.row.S) (copied 3 g.row.C) (param 4 g.row.H)
    g.A.Sharing g.A.Naming g.S.RowStore _ _ _ _ _ _ (ChannelWork.the_row (param 1 g.row.A) (param 7 g.row.D) g.A.Sharing g.A.Naming)
    (ClosureMark.the_row (Tuple (param 5 g.row.R ∷ param 6 g.row.W ∷ [])) ∷ [])
    b.send-S (copied_sync 3 _ b.sync-C) b.sync-H (inlet.the_sync _ _ _ _ b.send-D) (search (sendable, crosses) depth 20, tt)
    ))
