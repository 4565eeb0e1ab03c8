use Rattle.std.proofs.Common.{◌≡◌, set, is_some, true, false, ap, subst}
use Rattle.engine_model.specs.Steps.{Steps}
use Rattle.engine_model.specs.Turn.{chunk}
use Rattle.engine_model.specs.inner.View.{run_of}
use Rattle.engine_model.proofs.Worlds.{get-of, heard-by, heard-nowhere, none-at, world-heard}
use Rattle.engine_model.proofs.world.World.hear.Goals as goal

pub invariant_of-self : goal.invariant_of-self
invariant_of-self g c =
    world-heard (chunk c.args.conn c.args.bytes.now c.args.now) c.self.inside.book c.hear.new.book c.self.inside.connections.items c.args.conn c.hear.new.self c.self.invariant
    (heard-by c.args.conn c.args.bytes.now c.args.now c.self.inside.book c.hear.new.book c.self.inside.connections.items c.in-Some.connection.now c.hear.new.self (get-of c.self.inside.connections.items c.args.conn c.in-Some.connection.now c.in-Some.ensures.item.3.0 c.in-Some.ensures.item.1) c.hear.ensures.heard c.hear.ensures.folded)
    c.hear.ensures.plan c.hear.ensures.fit

pub returns-in-Some : goal.returns-in-Some
returns-in-Some g c =
    subst (λ r. Steps (chunk c.args.conn c.args.bytes.now c.args.now) r (run_of c.hear.new.book (set c.self.inside.connections.items c.args.conn c.hear.new.self))) c.self.view_is
    (heard-by c.args.conn c.args.bytes.now c.args.now c.self.inside.book c.hear.new.book c.self.inside.connections.items c.in-Some.connection.now c.hear.new.self (get-of c.self.inside.connections.items c.args.conn c.in-Some.connection.now c.in-Some.ensures.item.3.0 c.in-Some.ensures.item.1) c.hear.ensures.heard c.hear.ensures.folded)

pub returns-in_default : goal.returns-in_default
returns-in_default g c =
    subst (λ r. Steps (chunk c.args.conn c.args.bytes.now c.args.now) r (run_of c.self.inside.book c.self.inside.connections.items)) c.self.view_is
    (heard-nowhere c.args.conn c.args.bytes.now c.args.now c.self.inside.book c.self.inside.connections.items (none-at c.self.inside.connections.items c.args.conn
    (λ inside. let some : is_some c.get_mut.result ≡ true = c.get_mut.ensures.item.2 inside in let none : is_some c.get_mut.result ≡ false = ap is_some c.in_default.is in absurd cc)))
