use Rattle.std.specs.Prelude.{◌≡◌, ◌≤◌, ◌*◌}
use Rattle.std.proofs.Common.{take}
use Rattle.book_resume.specs.inner.Owing.{remembered_owed}
use Rattle.book_resume.proofs.owing.owed_of.Given as goal

abbrev pub invariant-loop-arrival : goal.invariant-loop-arrival
invariant-loop-arrival l = (l.owed ≡ remembered_owed l.plan (take l.arrival-index l.arrivals)) × (l.owed ≤ l.arrival-index * 6464)
