use denote.Param.Send.{arg_send, param_send}
use Rattle.engine_workers.proofs.inlet.fn.start_opening.spawn.Goals as goal

pub work_door-requires-send-A : goal.work_door-requires-send-A
work_door-requires-send-A g c κs within = param_send 0 _ (arg_send _ _ _ c.requires.1.1.1.1.1.1.1.0)

pub work_door-requires-send-S : goal.work_door-requires-send-S
work_door-requires-send-S g c κs within = param_send 1 _ (arg_send _ _ _ c.requires.1.1.1.1.1.1.1.1)

pub work_door-requires-send-R : goal.work_door-requires-send-R
work_door-requires-send-R g c κs within = param_send 4 _ (arg_send _ _ _ c.requires.1.1.1.1.1.1.1.2)

pub work_door-requires-send-W : goal.work_door-requires-send-W
work_door-requires-send-W g c κs within = param_send 5 _ (arg_send _ _ _ c.requires.1.1.1.1.1.1.1.3)
