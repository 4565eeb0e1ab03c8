use Rattle.std.specs.Prelude.{◌≡◌, ◌≤◌, ◌*◌, sum_by}
use Rattle.std.specs.List.{range_with_len}
use Rattle.book_resume.specs.inner.Owing.{owed_at}
use Rattle.book_resume.proofs.owing.message_owed.Given as goal

abbrev pub invariant-loop-d : goal.invariant-loop-d
invariant-loop-d l = (l.owed ≡ sum_by (owed_at l.plan l.slots) (range_with_len 0 l.d)) × (l.owed ≤ l.d * 202)
