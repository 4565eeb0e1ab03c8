use Rattle.std.proofs.Common.{subst}
use Rattle.event_log.specs.Event as event
use Rattle.engine_model.specs.Steps.{Steps}
use Rattle.engine_model.specs.Turn as turn
use Rattle.engine_model.specs.inner.View.{run_of}
use Rattle.engine_model.proofs.Worlds.{does-step, world-on}
use Rattle.engine_model.proofs.world.World.cancel.Goals as goal

pub invariant_of-self : goal.invariant_of-self
invariant_of-self g c = world-on (event.cancel c.args.number c.args.among) tt c.self.inside.book c.cancel_among.new.self c.self.inside.connections.items _ c.self.invariant c.cancel_among.ensures.does

pub returns : goal.returns
returns g c =
    subst (λ r. Steps (turn.event (event.cancel c.args.number c.args.among)) r (run_of c.cancel_among.new.self c.self.inside.connections.items)) c.self.view_is
    (does-step (event.cancel c.args.number c.args.among) tt c.self.inside.book c.cancel_among.new.self c.self.inside.connections.items _ c.cancel_among.ensures.does)
