use Rattle.std.proofs.Common.{◌≡◌}
use Rattle.service_workers.proofs.at_place.book_when_free.Given as goal

-- nothing is booked yet
abbrev pub invariant-tries : goal.invariant-tries
invariant-tries g l = l.desk ≡ l.fn.desk
