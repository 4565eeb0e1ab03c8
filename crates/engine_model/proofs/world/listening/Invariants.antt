use Rattle.std.proofs.Common.{◌≡◌, All, length, map, take, vec_len, vec_capacity}
use Rattle.engine_model.specs.declared.connection.Connected.{Connected}
use Rattle.engine_model.specs.Run.{silent}
use Rattle.engine_model.specs.inner.View.{IsOpen, connection_of}
use Rattle.engine_model.proofs.world.listening.Given as goal

-- the connections so far
abbrev pub invariant-loop-channel : goal.invariant-loop-channel
invariant-loop-channel l =
    (vec_len l.connections ≡ l.channel-index) × (vec_capacity l.connections ≡ length l.channels)
    × (map connection_of l.connections.items ≡ map silent (take l.channel-index l.channels)) × All IsOpen l.connections.items × All (λ (c : Connected). c.folded ≡ 0) l.connections.items
