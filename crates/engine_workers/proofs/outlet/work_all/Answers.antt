use denote.Exit.{yes, no}
use denote.Param.{layout}
use denote.Param.Send.{arg_send, arg_sync, copied_sync, param_send, param_sync}
use Rattle.engine_workers.proofs.outlet.work_all.Goals as goal

pub scoped-requires : goal.scoped-requires
scoped-requires g c =
    let b = c.type_bounds in
    record {
      at = λ a. (
        arg_send _ yes _ (param_send 0 _ (arg_send (layout g.row.A) no _ b.send-A)),
        arg_send _ yes _ (param_send 1 _ (arg_send (layout g.row.S) no _ b.send-S)),
        arg_send _ yes _ (param_send 4 _ (arg_send (layout g.row.R) no _ b.send-R)),
        arg_send _ yes _ (param_send 5 _ (arg_send (layout g.row.W) no _ b.send-W)),
        arg_send _ yes _ (param_send 6 _ (arg_send (layout g.row.D) no _ b.send-D)),
        arg_send _ yes _ (param_send 7 _ (arg_send (layout g.row.L) no _ b.send-L)),
        arg_sync _ yes _ (param_sync 0 _ (arg_sync (layout g.row.A) no _ b.sync-A)),
        arg_sync _ yes _ (copied_sync 2 _ (arg_sync (layout g.row.C) no _ b.sync-C)),
        arg_sync _ yes _ (param_sync 3 _ (arg_sync (layout g.row.H) no _ b.sync-H)),
      );
    }
