use Rattle.std.proofs.Common.{vec_len}
use Rattle.book_lock.proofs.desks.+compare_desks.Given as goal

abbrev pub decreases-compare_desks : goal.decreases-compare_desks
decreases-compare_desks g l = vec_len l.desks.now
