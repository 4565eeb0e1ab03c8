use Rattle.std.proofs.Common.{◌≡◌, max, take}
use Rattle.std.specs.List.{fold}
use Rattle.opening_maps.proofs.rebasing.most_attempts.Given as goal

abbrev pub invariant-loop-d : goal.invariant-loop-d
invariant-loop-d l = l.most ≡ fold (λ most d. max most d.attempts) 0 (take l.d-index l.d-items)
