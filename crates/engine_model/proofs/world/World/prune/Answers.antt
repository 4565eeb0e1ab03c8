use Rattle.std.proofs.Common.{◌++◌, List, drop, length, take, subst}
use Rattle.engine_model.specs.declared.connection.Connected.{Connected}
use Rattle.engine_model.specs.Run.{Run}
use Rattle.engine_model.specs.Steps.{Steps}
use Rattle.engine_model.specs.Turn.{prune}
use Rattle.engine_model.specs.inner.View.{run_of}
use Rattle.engine_model.proofs.Worlds.{all-noted, pruned-by, when-ok, world-folded}
use Rattle.engine_model.proofs.world.World.prune.Goals as goal

pub invariant_of-self : goal.invariant_of-self
invariant_of-self g c =
    let cs : List Connected = c.self.inside.connections.items in
    let now : List Connected = take c.self.inside.connections.len (c.note_folding.new.connections ++ drop (length c.note_folding.new.connections) cs) in
    world-folded c.self.inside.book c.prune.new.self cs now c.args.before c.self.invariant
    (when-ok c.prune.result c.is_ok.result c.is_ok.ensures.value c.if-is_ok.true c.prune.ensures.answer)
    (when-ok c.prune.result c.is_ok.result c.is_ok.ensures.value c.if-is_ok.true c.prune.ensures.folded)
    (all-noted cs c.deref_mut.result.now c.note_folding.new.connections c.self.inside.connections.len c.self.inside.connections.ok.0 c.deref_mut.ensures.value c.note_folding.ensures)

pub returns-then-is_ok : goal.returns-then-is_ok
returns-then-is_ok g c =
    let cs : List Connected = c.self.inside.connections.items in
    let now : List Connected = take c.self.inside.connections.len (c.note_folding.new.connections ++ drop (length c.note_folding.new.connections) cs) in
    subst (λ (r : Run). Steps (prune c.args.before) r (run_of c.prune.new.self now)) c.self.view_is
    (pruned-by c.self.inside.book c.prune.new.self cs now c.args.before
    (when-ok c.prune.result c.is_ok.result c.is_ok.ensures.value c.if-is_ok.true c.prune.ensures.answer)
    (when-ok c.prune.result c.is_ok.result c.is_ok.ensures.value c.if-is_ok.true c.prune.ensures.folded)
    (all-noted cs c.deref_mut.result.now c.note_folding.new.connections c.self.inside.connections.len c.self.inside.connections.ok.0 c.deref_mut.ensures.value c.note_folding.ensures))
