use Rattle.book_resume.proofs.RowsSoFar.{SoFar}
use Rattle.book_resume.proofs.arrivals.add_arrivals.Given as goal

abbrev pub invariant-loop-arrival : goal.invariant-loop-arrival
invariant-loop-arrival g l = SoFar l.arrivals l.arrival-index (g.S.RowStore.rows l.rows) l.keys.known
