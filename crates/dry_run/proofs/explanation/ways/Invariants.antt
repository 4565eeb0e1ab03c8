use Rattle.std.proofs.Common.{◌≡◌, map, take}
use Rattle.dry_run.specs.inner.Ways.{way}
use Rattle.dry_run.proofs.explanation.ways.Given as goal

-- how it fares on the routes so far
abbrev pub invariant-loop-route : goal.invariant-loop-route
invariant-loop-route l = l.all.items ≡ map (way l.message) (take l.route-index l.routes)
