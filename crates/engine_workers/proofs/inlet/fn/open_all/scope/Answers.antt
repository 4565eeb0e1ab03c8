use denote.Param.Send.{arg_send, param_send}
use Rattle.engine_workers.proofs.inlet.fn.open_all.scope.Goals as goal

pub admit_all-requires-send-A : goal.admit_all-requires-send-A
admit_all-requires-send-A g c κs within = param_send 1 _ (arg_send _ _ _ c.requires.1.1.1.1.1.1.1.0)

pub admit_all-requires-send-S : goal.admit_all-requires-send-S
admit_all-requires-send-S g c κs within = param_send 2 _ (arg_send _ _ _ c.requires.1.1.1.1.1.1.1.1)

pub admit_all-requires-send-R : goal.admit_all-requires-send-R
admit_all-requires-send-R g c κs within = param_send 5 _ (arg_send _ _ _ c.requires.1.1.1.1.1.1.1.2)

pub admit_all-requires-send-W : goal.admit_all-requires-send-W
admit_all-requires-send-W g c κs within = param_send 6 _ (arg_send _ _ _ c.requires.1.1.1.1.1.1.1.3)
