-- The book under its lock may be shared by threads, where its rows may be given to one.
use mathlib.Core.List.{List, [], ◌∷◌}
use denote.Struct.Field.{rows}
use mir.Syntax.{Sym}
use denote.RattleType.{RattleType}
use denote.Struct.Tuple.{TupleAt, type_at, parts}
use denote.Struct.Declared.{shape}
use denote.Param.Send.{IsSend, IsSync, sendable, view_send, recorded_send, recorded_sync, struct_send, struct_sync, AllSend}
use Rattle.book_core.specs.contracts.book.Book as Book
use Rattle.book_core.specs.contracts.book.Book.TheInside as Inside
use Rattle.book_core.specs.declared.letter.Outbound as Outbound
use Rattle.dest_queue.specs.declared.slots.Queued as Queued
use Rattle.row_store.specs.declared.RowStore as RowStore
use Rattle.book_lock.specs.contracts.locked.Locked as Locked
use Rattle.book_lock.specs.contracts.locked.Locked.TheInside as Behind
use Rattle.book_lock.specs.declared.locked.Sharing as Sharing
use Rattle.book_lock.specs.contracts.shared.Shared as Shared
use Rattle.book_lock.specs.contracts.log_entry.LogEntry as LogEntry
use Rattle.book_lock.specs.contracts.copied.Copied as Copied
use Rattle.book_lock.specs.contracts.unread.UnreadChanges as UnreadChanges
use Rattle.ghost_log.specs.declared.rule.Naming as Naming
use Rattle.ghost_log.proofs.Sent as ghost_log
use Rattle.std.proofs.sync.Mutex.TheSendSync as mutex
use Rattle.std.proofs.Crossing.{crosses}
use Rattle.hl7_filter.proofs.condition.Cond.TheLaws.TheKnot as cond
use Rattle.hl7_transform.proofs.step.Step.TheSendSync as step
use Rattle.plan_text.proofs.destination.Destination.TheSendSync as destination
use Rattle.plan_text.proofs.literal.Literal.TheSendSync as literal
use Rattle.plan_text.proofs.channel.MessageType.TheSendSync as message_type
use Rattle.plan_text.proofs.channel.ProcessingId.TheSendSync as processing_id
use Rattle.plan_text.proofs.channel.VersionId.TheSendSync as version_id
use Rattle.plan_text.specs.contracts.plan.Plan as Plan
use Rattle.plan_text.specs.contracts.channel.Channel as Channel
use Rattle.plan_text.specs.contracts.channel.Route as Route
use Rattle.dest_queue.proofs.slots.Slots.TheSendSync as slots
use Rattle.event_log.specs.contracts.log.Log as Log
use Rattle.event_log.specs.contracts.opening.Remembered as Remembered
use Rattle.event_log.specs.contracts.opening.Snapshot as Snapshot
use Rattle.event_log.specs.contracts.entry.DeployedPlan as DeployedPlan
use Rattle.event_log.specs.contracts.entry.Entry as Entry

-- its parts cross
parts_send : (Ts : List RattleType) → AllSend Ts → AllSend (rows (parts Ts))
parts_send [] s = tt
parts_send (T ∷ Ts) s = (s.0, parts_send Ts s.1)

-- a closure crosses where what it captured does
pub tuple_send : (ν : Sym) (Ts : List RattleType) → AllSend Ts → IsSend (TupleAt ν Ts)
tuple_send ν Ts s = recorded_send _ _ _ (type_at ν Ts).to_one (struct_send (shape (type_at ν Ts)) (parts_send Ts s))

pub route_send : IsSend Route.the_row
route_send = search (sendable, crosses, cond.crosses, step.the_send) depth 30 fits 30000

pub channel_send : IsSend Channel.the_row
channel_send = search (sendable, crosses, cond.crosses, step.the_send, route_send, literal.the_send, message_type.the_send, processing_id.the_send, version_id.the_send) depth 90 fits 30000

pub plan_send : IsSend Plan.the_row
plan_send = search (sendable, crosses, channel_send, destination.the_send) depth 30 fits 30000

pub route_sync : IsSync Route.the_row
route_sync = search (sendable, crosses, cond.crosses, step.the_sync) depth 30 fits 30000

pub channel_sync : IsSync Channel.the_row
channel_sync = search (sendable, crosses, cond.crosses, step.the_sync, route_sync, literal.the_sync, message_type.the_sync, processing_id.the_sync, version_id.the_sync) depth 90 fits 30000

pub plan_sync : IsSync Plan.the_row
plan_sync = search (sendable, crosses, channel_sync, destination.the_sync) depth 30 fits 30000

pub deployed_send : IsSend DeployedPlan.the_row
deployed_send = search (sendable, crosses, plan_send, plan_sync) depth 60 fits 30000

pub entry_send : IsSend Entry.the_row
entry_send = search (sendable, crosses, deployed_send) depth 90 fits 30000

pub remembered_send : IsSend Remembered.the_row
remembered_send = search (sendable, crosses, slots.the_send) depth 90 fits 30000

pub snapshot_send : IsSend Snapshot.the_row
snapshot_send = search (sendable, crosses, plan_send, plan_sync, remembered_send) depth 90 fits 30000

pub log_send : IsSend Log.the_row
log_send = search (sendable, crosses, plan_send, plan_sync, entry_send, snapshot_send) depth 90 fits 30000

pub book_send : (S : RattleType) (g : RowStore.Ghosts S.Denot (Queued.Queued Outbound.Outbound)) → IsSend S → IsSend (Book.the_row S g)
book_send S g s =
    view_send (Inside.the_row S g) _ _ _ _
    (recorded_send (Inside.the_field S g).row _ _ (Inside.the_type S g).to_one
    (struct_send (shape (Inside.the_type S g)) (
      search (sendable, crosses) depth 20,
      (log_send, (s, (search (sendable, crosses) depth 60 fits 30000, (search (sendable, crosses) depth 60 fits 30000, (search (sendable, crosses) depth 20, tt))))),
    )))

pub copied_send : IsSend Copied.the_row
copied_send = search (sendable, crosses, deployed_send) depth 90 fits 30000

pub unread_send : IsSend UnreadChanges.the_row
unread_send = search (sendable, crosses, copied_send) depth 90 fits 30000

module _ (A S : RattleType) (o : Sharing.Ghosts A.Denot) (n : Naming.Ghosts A.Denot)
    (g : RowStore.Ghosts S.Denot (Queued.Queued Outbound.Outbound)) where
  pub locked_send : IsSend S → IsSend (Locked.the_row A S o n g)
  locked_send s =
      view_send (Behind.the_row A S o n g) _ _ _ _
      (recorded_send (Behind.the_field A S o n g).row _ _ (Behind.the_type A S o n g).to_one
      (struct_send (shape (Behind.the_type A S o n g)) (
        book_send S g s,
        (
          search (sendable, crosses) depth 60 fits 30000,
          (
            search (sendable, crosses) depth 20,
            (
              search (sendable, crosses) depth 20,
              (
                ghost_log.log_send A LogEntry.the_row n,
                (
                  ghost_log.seat_send A LogEntry.the_row n,
                  (
                    search (sendable, crosses) depth 20,
                    (
                      search (sendable, crosses) depth 20,
                      (
                        search (sendable, crosses) depth 20,
                        (search (sendable, crosses) depth 20, (search (sendable, crosses, unread_send) depth 60 fits 30000, tt)),
                      ),
                    ),
                  ),
                ),
              ),
            ),
          ),
        ),
      )))

  pub shared_sync : IsSend S → IsSync (Shared.the_row A S o n g)
  shared_sync s =
      recorded_sync (Shared.the_field A S o n g).row _ _ (Shared.the_type A S o n g).to_one
      (struct_sync (shape (Shared.the_type A S o n g)) (
        mutex.the_sync _ (locked_send s),
        (
          search (sendable, crosses) depth 60 fits 30000,
          (
            search (sendable, crosses) depth 20,
            (search (sendable, crosses) depth 60 fits 30000, (search (sendable, crosses) depth 60 fits 30000, tt)),
          ),
        ),
      ))
