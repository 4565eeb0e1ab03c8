-- The entries of the routes so far.
use Rattle.std.proofs.Common.{◌≡◌, ◌≤◌, ◌+◌, ◌*◌, take}
use Rattle.std.specs.Prelude.{sum_by}
use Rattle.plan_notes.specs.inner.Room.{owed_at}
use Rattle.plan_notes.proofs.room.reserved_by.Given as goal

abbrev pub invariant-loop-route : goal.invariant-loop-route
invariant-loop-route l = (l.entries ≡ 1 + sum_by (owed_at l.plan) (take l.route-index l.channel.routes)) × (l.entries ≤ 1 + 201 * l.route-index)
