use Rattle.std.specs.Arc.{arc_value}
use Rattle.event_log.specs.Event as event
use Rattle.engine_model.proofs.Worlds.{world-on}
use Rattle.engine_model.proofs.world.World.deploy.Goals as goal

pub invariant_of-self : goal.invariant_of-self
invariant_of-self g c = world-on (event.deploy (arc_value c.in-Ok.plan)) tt c.self.inside.book c.deploy.new.self c.self.inside.connections.items _ c.self.invariant c.deploy.ensures.does
