use Rattle.std.proofs.Common.{◌≡◌, ◌+◌, max, take}
use Rattle.std.specs.List.{fold}
use Rattle.opening_maps.proofs.rebasing.most_received.Given as goal

abbrev pub invariant-loop-c : goal.invariant-loop-c
invariant-loop-c l = l.most ≡ fold (λ most c. max most (c.received + c.repeats)) 0 (take l.c-index l.c-items)
