use Rattle.std.proofs.Common.{◌≡◌, drop}
use Rattle.stopped_step.specs.inner.Stopping.{stop_in}
use Rattle.stopped_step.proofs.stop_in.Given as goal

-- what the routes that are left give is what all of them give
abbrev pub invariant-loop-index : goal.invariant-loop-index
invariant-loop-index l = stop_in l.index l.message (drop l.index l.routes) ≡ stop_in 0 l.message l.routes
