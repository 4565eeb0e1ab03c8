use Rattle.book_replay.proofs.Runs.{HasSettled}
use Rattle.book_replay.proofs.flights.settle_each.Given as goal

abbrev pub invariant-loop-index : goal.invariant-loop-index
invariant-loop-index g l = HasSettled l.fn.book l.now l.tickets l.index l.settled.items l.book
