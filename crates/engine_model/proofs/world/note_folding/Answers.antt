use Rattle.std.proofs.Common.{get_or, ◌∙◌}
use Rattle.engine_model.specs.declared.connection.Connected.{Connected}
use Rattle.engine_model.proofs.Worlds.{noted-more}
use Rattle.engine_model.proofs.world.note_folding.Goals as goal

pub loop-connection-preserved : goal.loop-connection-preserved
loop-connection-preserved c =
    let it : Connected = get_or c.loop-connection.connection-items c.loop-connection.connection-index c.connection-item.result in
    noted-more c.args.connections.now c.loop-connection.connection-items c.loop-connection.connection-index c.len-connection.result c.connection-item.result c.loop-connection-test.true c.loop-connection.invariant
    (c.len-connection.ensures ∙ it.words.answers.ok.0)
