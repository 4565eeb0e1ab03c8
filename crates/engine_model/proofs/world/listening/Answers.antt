use Rattle.std.proofs.Common.{◌≡◌, ◌∷◌, [], ◌++◌, arith}
use Rattle.std.proofs.lemmas.List.Elements.{All-push, All-same}
use Rattle.engine_model.specs.declared.connection.Connected.{Connected}
use Rattle.engine_model.specs.inner.View.{IsOpen}
use Rattle.engine_model.proofs.Conversely.{silent-more}
use Rattle.engine_model.proofs.world.listening.Goals as goal

pub loop-channel-preserved : goal.loop-channel-preserved
loop-channel-preserved c = (
  omega (arith, c.push_reserved.ensures.len, c.loop-channel.invariant.0),
  omega (arith, c.push_reserved.ensures.capacity, c.loop-channel.invariant.1),
  silent-more c.args.channels.now c.loop-channel.channel-index _ c.loop-channel.connections.items c.push_reserved.new.self.items c.new.result c.loop-channel-test.true c.loop-channel.invariant.2 c.push_reserved.ensures.items c.new.ensures.silent,
  All-same IsOpen c.push_reserved.new.self.items (c.loop-channel.connections.items ++ c.new.result ∷ []) c.push_reserved.ensures.items
      (All-push IsOpen c.loop-channel.connections.items c.new.result c.loop-channel.invariant.3 c.new.ensures.stands),
  All-same (λ (d : Connected). d.folded ≡ 0) c.push_reserved.new.self.items (c.loop-channel.connections.items ++ c.new.result ∷ []) c.push_reserved.ensures.items
      (All-push (λ (d : Connected). d.folded ≡ 0) c.loop-channel.connections.items c.new.result c.loop-channel.invariant.4 c.new.ensures.folded),
)
