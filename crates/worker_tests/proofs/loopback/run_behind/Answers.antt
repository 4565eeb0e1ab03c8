use Rattle.std.specs.Prelude.{Some}
use mir.Syntax.{erased}
use denote.Exit.{no}
use denote.Param.Send.{arg_send, param_send}
use Rattle.delivery_worker.proofs.tcp_link.TcpLink.TheSendSync as link
use Rattle.worker_tests.proofs.Crossing.{door_send, way_send}
use Rattle.worker_tests.proofs.loopback.run_behind.Goals as goal

pub run_on-requires-send-D : goal.run_on-requires-send-D
run_on-requires-send-D g c κs within = param_send 3 _ (arg_send _ no _ (door_send (record { mir = erased; lft = _ }) _ c.type_bounds.sync-H))

pub run_on-requires-send-L : goal.run_on-requires-send-L
run_on-requires-send-L g c κs within = param_send 4 _ (arg_send _ no _ (link.the_send (record { mir = erased; lft = _ }) _ _ (record { leads_to = λ way. way.index; plan = λ way. Some way.plan.now }) (way_send (record { mir = erased; lft = _ })) c.type_bounds.sync-H))
