use Rattle.std.proofs.Common.{map, ◌++◌}
use Rattle.mllp_frame.specs.inner.Event.{event_of}
use Rattle.mllp_frame.specs.inner.Stage.{open_block}
use Rattle.mllp_frame.proofs.ReadSteps.{reads_front, on_err_always}
use Rattle.mllp_frame.proofs.stage.read.Goals as goal

pub returns-in_err-next-clause-err : goal.returns-in_err-next-clause-err
returns-in_err-next-clause-err c =
    let old = map event_of c.args.events.now.items in
    let mid = map event_of c.piece.events.items in
    let new = map event_of c.advance.new.events.items in
    on_err_always c.from_residual.result
    (reads_front old mid new (open_block c.args.start ++ c.args.piece.now) (open_block c.piece.stage ++ c.piece.rest.now) c.piece.invariant.reads c.in_err-next.ensures.err)
