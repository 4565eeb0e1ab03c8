use Rattle.book_replay.proofs.Runs.{HasReplayed}
use Rattle.book_replay.proofs.run.replay.Given as goal

abbrev pub invariant-loop-index : goal.invariant-loop-index
invariant-loop-index g l = HasReplayed l.fn.book l.records l.index l.book
