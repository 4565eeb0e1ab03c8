use mathlib.Core.List.{[], ◌∷◌}
use denote.Exit.{no}
use denote.Param.{param}
use denote.Ref.{ShrRef}
use denote.Param.Send.{arg_send, param_send, shr_send}
use Rattle.book_lock.specs.contracts.shared.Shared as Shared
use Rattle.book_lock.proofs.Sent.{tuple_send, shared_sync}
use Rattle.book_lock_tests.proofs.threads.beside.Goals as goal

pub join-station-requires-send-F : goal.join-station-requires-send-F
join-station-requires-send-F g c κs within =
    let b = c.type_bounds in
    let A = param 0 g.row.A in
    let S = param 1 g.row.S in
    let H = param 2 g.row.H in
    let Row = Shared.the_row A S g.A.Sharing g.A.Naming g.S.RowStore in
    let sync = shared_sync A S g.A.Sharing g.A.Naming g.S.RowStore b.send-S in
    param_send 1 _ (arg_send _ no _ (tuple_send _ (ShrRef _ _ H ∷ ShrRef _ _ Row ∷ []) (shr_send _ _ H b.sync-H, (shr_send _ _ Row sync, tt))))
