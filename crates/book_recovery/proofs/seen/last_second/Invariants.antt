use Rattle.std.proofs.Common.{◌≡◌, map, take}
use Rattle.book_recovery.specs.Seen.{last_second}
use Rattle.book_recovery.proofs.seen.last_second.Given as goal

abbrev pub invariant-loop-row : goal.invariant-loop-row
invariant-loop-row l = l.last ≡ last_second (map (λ r. r.at) (take l.row-index l.rows))
