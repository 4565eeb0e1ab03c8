use Rattle.std.specs.Prelude.{Some}
use mir.Syntax.{erased}
use denote.Exit.{no}
use denote.Param.Send.{arg_send, param_send}
use Rattle.delivery_worker.proofs.tcp_link.TcpLink.TheSendSync as link
use Rattle.hl7_engine.proofs.Crossing.{door_send, way_send}
use Rattle.hl7_engine.proofs.commands.run.work_at.Goals as goal

pub run_workers-requires-send-D : goal.run_workers-requires-send-D
run_workers-requires-send-D g c κs within = param_send 6 _ (arg_send _ no _ (door_send (record { mir = erased; lft = _ }) _ c.type_bounds.sync-H))

pub run_workers-requires-send-L : goal.run_workers-requires-send-L
run_workers-requires-send-L g c κs within = param_send 7 _ (arg_send _ no _ (link.the_send (record { mir = erased; lft = _ }) _ _ (record { leads_to = λ way. way.index; plan = λ way. Some way.plan.now }) (way_send (record { mir = erased; lft = _ })) c.type_bounds.sync-H))
