use denote.Param.Send.{arg_send, param_send}
use Rattle.service_run.proofs.threads.fn.work.scope.Goals as goal

pub work_within-requires-send-A : goal.work_within-requires-send-A
work_within-requires-send-A g c κs within = param_send 1 _ (arg_send _ _ _ c.requires.1.1.0)
