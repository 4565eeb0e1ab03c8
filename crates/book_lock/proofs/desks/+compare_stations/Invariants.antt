use Rattle.std.proofs.Common.{vec_len}
use Rattle.book_lock.proofs.desks.+compare_stations.Given as goal

abbrev pub decreases-compare_stations : goal.decreases-compare_stations
decreases-compare_stations g l = vec_len l.stations.now
