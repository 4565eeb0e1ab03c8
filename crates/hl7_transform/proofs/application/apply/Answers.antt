use Rattle.hl7_transform.proofs.Stopping.{stopped_at, some_wants}
use Rattle.hl7_transform.proofs.application.apply.Goals as goal
use Rattle.hl7_transform.proofs.application.apply.Goals.{in-Cause, in-NoMemory}

pub returns-in-Err : goal.returns-in-Err
returns-in-Err c =
    elim c.match-stop.branch [
      | in-Cause w ↦ rw w.result-is
          (stopped_at c.args.steps.now c.loop-place.place c.index-steps-place.result c.args.message c.loop-place.message w.in-Cause.cause
          c.loop-place-test.true c.index-steps-place.is c.loop-place.invariant (rw w.in-Cause.is at c.in-Err.ensures))
      | in-NoMemory w ↦ rw w.result-is
          (some_wants c.args.steps.now c.loop-place.place c.index-steps-place.result c.args.message c.loop-place.message
          c.loop-place-test.true c.index-steps-place.is c.loop-place.invariant (rw w.in-NoMemory.is at c.in-Err.ensures))
    ]
