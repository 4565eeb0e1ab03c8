use Rattle.std.proofs.Common.{length}
use Rattle.play_text.proofs.frames.drain.Given as goal

abbrev pub invariant-loop-event : goal.invariant-loop-event
invariant-loop-event l = Unit {0}

abbrev pub decreases-loop-event : goal.decreases-loop-event
decreases-loop-event l = length l.framer.to_come
