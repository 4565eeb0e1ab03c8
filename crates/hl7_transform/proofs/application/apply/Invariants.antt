use Rattle.hl7_transform.proofs.Stopping.{SoFar}
use Rattle.hl7_transform.proofs.application.apply.Given as goal

abbrev pub invariant-loop-place : goal.invariant-loop-place
invariant-loop-place l = SoFar l.steps l.initial.message l.place l.message
