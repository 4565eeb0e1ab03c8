use denote.Param.Send.{arg_send, param_send}
use Rattle.engine_workers.proofs.outlet.fn.work_all.scope.Goals as goal

pub start_delivering_all-requires-send-A : goal.start_delivering_all-requires-send-A
start_delivering_all-requires-send-A g c κs within = param_send 1 _ (arg_send _ _ _ c.requires.1.1.1.1.1.1.1.1.0)

pub start_delivering_all-requires-send-S : goal.start_delivering_all-requires-send-S
start_delivering_all-requires-send-S g c κs within = param_send 2 _ (arg_send _ _ _ c.requires.1.1.1.1.1.1.1.1.1)

pub start_delivering_all-requires-send-L : goal.start_delivering_all-requires-send-L
start_delivering_all-requires-send-L g c κs within = param_send 5 _ (arg_send _ _ _ c.requires.1.1.1.1.1.1.1.1.5)

pub open_doors-requires-send-A : goal.open_doors-requires-send-A
open_doors-requires-send-A g c κs within = param_send 0 _ (arg_send _ _ _ c.requires.1.1.1.1.1.1.1.1.0)

pub open_doors-requires-send-S : goal.open_doors-requires-send-S
open_doors-requires-send-S g c κs within = param_send 1 _ (arg_send _ _ _ c.requires.1.1.1.1.1.1.1.1.1)

pub open_doors-requires-send-R : goal.open_doors-requires-send-R
open_doors-requires-send-R g c κs within = param_send 4 _ (arg_send _ _ _ c.requires.1.1.1.1.1.1.1.1.2)

pub open_doors-requires-send-W : goal.open_doors-requires-send-W
open_doors-requires-send-W g c κs within = param_send 5 _ (arg_send _ _ _ c.requires.1.1.1.1.1.1.1.1.3)

pub open_doors-requires-send-D : goal.open_doors-requires-send-D
open_doors-requires-send-D g c κs within = param_send 6 _ (arg_send _ _ _ c.requires.1.1.1.1.1.1.1.1.4)
