use denote.Param.Send.{arg_send, param_send}
use Rattle.engine_workers.proofs.inlet.fn.open_doors.scope.Goals as goal

pub start_opening_all-requires-send-A : goal.start_opening_all-requires-send-A
start_opening_all-requires-send-A g c κs within = param_send 1 _ (arg_send _ _ _ c.requires.1.1.1.1.1.1.1.0)

pub start_opening_all-requires-send-S : goal.start_opening_all-requires-send-S
start_opening_all-requires-send-S g c κs within = param_send 2 _ (arg_send _ _ _ c.requires.1.1.1.1.1.1.1.1)

pub start_opening_all-requires-send-R : goal.start_opening_all-requires-send-R
start_opening_all-requires-send-R g c κs within = param_send 5 _ (arg_send _ _ _ c.requires.1.1.1.1.1.1.1.2)

pub start_opening_all-requires-send-W : goal.start_opening_all-requires-send-W
start_opening_all-requires-send-W g c κs within = param_send 6 _ (arg_send _ _ _ c.requires.1.1.1.1.1.1.1.3)

pub start_opening_all-requires-send-D : goal.start_opening_all-requires-send-D
start_opening_all-requires-send-D g c κs within = param_send 7 _ (arg_send _ _ _ c.requires.1.1.1.1.1.1.1.4)
