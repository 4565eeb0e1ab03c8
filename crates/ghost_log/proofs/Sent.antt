-- The log and its seats may be given to another thread.
use denote.RattleType.{RattleType}
use denote.Param.Send.{IsSend, sendable}
use Rattle.std.proofs.Crossing.{crosses}
use Rattle.atomic_table.proofs.shared.Shared.TheSendSync as table
use Rattle.atomic_table.proofs.shared.Seat.TheSendSync as pass
use Rattle.atomic_table.proofs.badge.Badge.TheSendSync as badge
use Rattle.atomic_table.proofs.send_lease.SendLease.TheSendSync as lease
use Rattle.ghost_log.specs.declared.rule.Naming as Naming
use Rattle.ghost_log.specs.contracts.log.GhostLog as GhostLog
use Rattle.ghost_log.specs.contracts.log.Seat as Seat

module _ (J E : RattleType) (n : Naming.Ghosts J.Denot) where
  pub log_send : IsSend (GhostLog.the_row J E n)
  log_send = search (sendable, crosses, table.the_send, pass.the_send, lease.the_send) depth 90 fits 60000

  pub seat_send : IsSend (Seat.the_row J E n)
  seat_send = search (sendable, crosses, badge.the_send) depth 90 fits 60000
