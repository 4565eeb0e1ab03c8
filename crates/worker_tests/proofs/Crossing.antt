-- A door over TCP, and the way of a link, may be given to a thread.
use denote.Ref.{NamedLft}
use denote.RattleType.{RattleType}
use denote.Struct.Declared.{shape}
use denote.Param.Send.{IsSend, IsSync, sendable, view_send, recorded_send, struct_send, shr_send}
use Rattle.std.proofs.Crossing.{crosses}
use Rattle.plan_text.specs.contracts.channel.Channel as Channel
use Rattle.plan_text.specs.contracts.plan.Plan as Plan
use Rattle.book_lock.proofs.Sent.{channel_sync, plan_sync}
use Rattle.delivery_worker.specs.contracts.way.FixedWay as FixedWay
use Rattle.engine_workers.specs.contracts.tcp_door.TcpDoor as TcpDoor
use Rattle.engine_workers.specs.contracts.tcp_door.TcpDoor.TheInside as Inside

pub door_send : (x : NamedLft) (H : RattleType) → IsSync H → IsSend (TcpDoor.the_row x H)
door_send x H h =
    view_send (Inside.the_row x H) _ _ _ _
    (recorded_send (Inside.the_field x H).row _ _ (Inside.the_type x H).to_one
    (struct_send (shape (Inside.the_type x H)) (
      shr_send _ _ H h,
      (
        search (sendable, crosses) depth 20,
        (
          shr_send _ _ Channel.the_row channel_sync,
          (
            search (sendable, crosses) depth 20,
            (search (sendable, crosses) depth 40 fits 30000, (search (sendable, crosses) depth 20, (search (sendable, crosses) depth 20, tt))),
          ),
        ),
      ),
    )))

pub way_send : (x : NamedLft) → IsSend (FixedWay.the_row x)
way_send x =
    recorded_send (FixedWay.the_field x).row _ _ (FixedWay.the_type x).to_one
    (struct_send (shape (FixedWay.the_type x)) (shr_send _ _ Plan.the_row plan_sync, (search (sendable, crosses) depth 20, tt)))
