use Rattle.std.specs.Arc.{arc_value}
use Rattle.engine_model.proofs.Worlds.{opened-is, world-opened}
use Rattle.engine_model.proofs.world.World.new.Goals as goal

pub invariant_of-result : goal.invariant_of-result
invariant_of-result g c =
    world-opened (arc_value c.args.plan) c.args.events_max c.new.result c.args.channels.now c.in_ok-connections.connections.items c.new.ensures c.in_ok-connections.ensures.silent c.requires.known c.in_ok-connections.ensures.stand c.in_ok-connections.ensures.none_folded

pub returns : goal.returns
returns g c =
    opened-is (arc_value c.args.plan) c.args.events_max c.new.result c.args.channels.now c.in_ok-connections.connections.items c.new.ensures c.in_ok-connections.ensures.silent c.in_ok-connections.ensures.none_folded
