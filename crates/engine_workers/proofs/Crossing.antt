-- What the threads of the workers are given crosses to them.
use mathlib.Core.List.{List, ◌∷◌}
use mir.Syntax.{Sym, Lifetime}
use base.Fml.{Lft}
use denote.Ref.{NamedLft, ShrRef}
use denote.RattleType.{RattleType}
use denote.Struct.Tuple.{TupleAt}
use denote.Struct.Declared.{shape}
use denote.Param.Send.{IsSend, IsSync, AllSend, sendable, recorded_sync, struct_sync, shr_send, shr_sync}
use Rattle.std.proofs.Crossing.{crosses}
use Rattle.row_store.specs.declared.RowStore as RowStore
use Rattle.dest_queue.specs.declared.slots.Queued as Queued
use Rattle.book_core.specs.declared.letter.Outbound as Outbound
use Rattle.book_lock.specs.declared.locked.Sharing as Sharing
use Rattle.ghost_log.specs.declared.rule.Naming as Naming
use Rattle.book_lock.specs.contracts.shared.Shared as Shared
use Rattle.book_lock.proofs.Sent.{plan_sync, shared_sync, tuple_send}
use Rattle.plan_text.specs.contracts.plan.Plan as Plan
use Rattle.engine_workers.specs.contracts.site.Context as Context

module _ (A S C H : RattleType) (o : Sharing.Ghosts A.Denot) (n : Naming.Ghosts A.Denot)
    (g : RowStore.Ghosts S.Denot (Queued.Queued Outbound.Outbound)) where
  -- every worker may read what all share
  pub site_sync : (x : NamedLft) → IsSend S → IsSync C → IsSync H → IsSync (Context.the_row x A S C H o n g)
  site_sync x s c h =
      recorded_sync (Context.the_field x A S C H o n g).row _ _ (Context.the_type x A S C H o n g).to_one
      (struct_sync (shape (Context.the_type x A S C H o n g)) (
        shr_sync _ _ H h,
        (
          search (sendable, crosses) depth 20,
          (
            shr_sync _ _ (Shared.the_row A S o n g) (shared_sync A S o n g s),
            (shr_sync _ _ Plan.the_row plan_sync, (c, (search (sendable, crosses) depth 20, tt))),
          ),
        ),
      ))

  -- a thread that is given it, a place of its own, and what else crosses
  pub at_place_send : (ν : Sym) (ℓ ℓ2 : Lifetime) (κ κ2 : Lft) (x : NamedLft) (Y : RattleType) (Ts : List RattleType)
      → IsSend S → IsSync C → IsSync H → IsSync Y → AllSend Ts
      → IsSend (TupleAt ν (ShrRef ℓ κ (Context.the_row x A S C H o n g) ∷ ShrRef ℓ2 κ2 Y ∷ Ts))
  at_place_send ν ℓ ℓ2 κ κ2 x Y Ts s c h y ts =
      tuple_send ν (ShrRef ℓ κ (Context.the_row x A S C H o n g) ∷ ShrRef ℓ2 κ2 Y ∷ Ts)
      (shr_send ℓ κ (Context.the_row x A S C H o n g) (site_sync x s c h), (shr_send ℓ2 κ2 Y y, ts))
