-- What the threads of a service share crosses to them.
use mathlib.Core.List.{List, ◌∷◌}
use mir.Syntax.{Sym, Lifetime}
use base.Fml.{Lft}
use denote.Ref.{NamedLft, ShrRef}
use denote.RattleType.{RattleType}
use denote.Struct.Tuple.{TupleAt}
use denote.Struct.Declared.{shape}
use denote.Param.Send.{IsSend, IsSync, AllSend, sendable, recorded_sync, struct_sync, shr_send, shr_sync}
use Rattle.std.proofs.Crossing.{crosses}
use Rattle.book_lock.specs.declared.locked.Sharing as Sharing
use Rattle.ghost_log.specs.declared.rule.Naming as Naming
use Rattle.book_lock.proofs.Sent.{shared_sync, tuple_send}
use Rattle.record_list.specs.contracts.record_list.RecordList as RecordList
use Rattle.record_list.proofs.record_list.RecordList.TheSendSync as record_list
use Rattle.dest_queue.specs.contracts.slots.Queued as Queued
use Rattle.dest_queue.proofs.slots.Queued.TheSendSync as addressed
use Rattle.book_core.specs.contracts.letter.Outbound as Outbound
use Rattle.book_core.proofs.letter.Outbound.TheSendSync as letter
use Rattle.service_workers.specs.contracts.site.Site as Site

-- the store of the rows may be given to another thread
rows_send : IsSend (RecordList.the_row (Queued.the_row Outbound.the_row))
rows_send = search (sendable, crosses, record_list.the_send, addressed.the_send, letter.the_send) depth 60 fits 30000

module _ (A H : RattleType) (o : Sharing.Ghosts A.Denot) (n : Naming.Ghosts A.Denot) where
  -- every worker may read what all share
  pub site_sync : (x : NamedLft) → IsSync H → IsSync (Site.the_row x A H o n)
  site_sync x h =
      recorded_sync (Site.the_field x A H o n).row _ _ (Site.the_type x A H o n).to_one
      (struct_sync (shape (Site.the_type x A H o n)) (
        shr_sync _ _ H h,
        (
          search (sendable, crosses) depth 20,
          (
            shr_sync _ _ _ (shared_sync A _ o n (record { rows = λ s. s.rows; room = λ s. 0 }) rows_send),
            -- (the numbers first, one by one: a search for all of the fields at once is too long)
            (
              search (sendable, crosses) depth 20,
              (
                search (sendable, crosses) depth 20,
                (
                  search (sendable, crosses) depth 20,
                  (
                    search (sendable, crosses) depth 20,
                    (
                      search (sendable, crosses) depth 20,
                      (
                        search (sendable, crosses) depth 20,
                        search (sendable, crosses) depth 60 fits 30000,
                      ),
                    ),
                  ),
                ),
              ),
            ),
          ),
        ),
      ))

  -- a thread that is given it, and what else crosses
  pub at_site_send : (ν : Sym) (ℓ : Lifetime) (κ : Lft) (x : NamedLft) (Ts : List RattleType) → IsSync H → AllSend Ts
      → IsSend (TupleAt ν (ShrRef ℓ κ (Site.the_row x A H o n) ∷ Ts))
  at_site_send ν ℓ κ x Ts h ts =
      tuple_send ν (ShrRef ℓ κ (Site.the_row x A H o n) ∷ Ts) (shr_send ℓ κ (Site.the_row x A H o n) (site_sync x h), ts)

  -- a thread that is given it, a value that others may read, and what else crosses
  pub at_place_send : (ν : Sym) (ℓ ℓ2 : Lifetime) (κ κ2 : Lft) (x : NamedLft) (Y : RattleType) (Ts : List RattleType)
      → IsSync H → IsSync Y → AllSend Ts
      → IsSend (TupleAt ν (ShrRef ℓ κ (Site.the_row x A H o n) ∷ ShrRef ℓ2 κ2 Y ∷ Ts))
  at_place_send ν ℓ ℓ2 κ κ2 x Y Ts h y ts = at_site_send ν ℓ κ x (ShrRef ℓ2 κ2 Y ∷ Ts) h (shr_send ℓ2 κ2 Y y, ts)
