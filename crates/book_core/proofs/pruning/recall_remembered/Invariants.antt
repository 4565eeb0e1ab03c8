use Rattle.std.proofs.Common.{◌≡◌, map, take}
use Rattle.event_log.proofs.Recalling.{renewed}
use Rattle.book_core.specs.inner.Pruning.{since}
use Rattle.book_core.proofs.pruning.recall_remembered.Given as goal

abbrev pub invariant-loop-arrival : goal.invariant-loop-arrival
invariant-loop-arrival g l = l.kept.items ≡ since l.floor (map (renewed l.log.history) (take l.arrival-index l.arrival-items))
