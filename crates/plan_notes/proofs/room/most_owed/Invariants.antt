-- The most of the routes so far.
use Rattle.std.proofs.Common.{◌≡◌, ◌≤◌, ◌+◌, ◌*◌, take}
use Rattle.std.specs.Prelude.{fold, max}
use Rattle.plan_notes.specs.inner.Room.{owed_at}
use Rattle.plan_notes.proofs.room.most_owed.Given as goal

abbrev pub invariant-loop-route : goal.invariant-loop-route
invariant-loop-route l = (l.most ≡ fold (λ most route. max most (owed_at l.plan route)) 0 (take l.route-index l.channel.routes)) × (1 ≤ l.route-index → 1 ≤ l.most)
