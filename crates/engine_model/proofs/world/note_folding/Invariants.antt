use Rattle.std.proofs.Common.{◌≡◌, ◌++◌, map, take, drop}
use Rattle.engine_model.specs.inner.View.{with_folded}
use Rattle.engine_model.proofs.world.note_folding.Given as goal

-- those so far were noted
abbrev pub invariant-loop-connection : goal.invariant-loop-connection
invariant-loop-connection l = l.connection-items ≡ map with_folded (take l.connection-index l.fn.connections) ++ drop l.connection-index l.fn.connections
