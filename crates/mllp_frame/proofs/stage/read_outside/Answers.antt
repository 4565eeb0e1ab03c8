use Rattle.std.proofs.Common.{◌≡◌, ◌++◌, [], map, subst, ap, arith}
use Rattle.std.proofs.lemmas.Result.{IfOk-weaker, on_err_weaker}
use Rattle.mllp_frame.specs.inner.Event.{event_of}
use Rattle.mllp_frame.specs.Framing.{blocks}
use Rattle.mllp_frame.specs.inner.Framed.{AddsFront}
use Rattle.mllp_frame.specs.inner.Stage.{Reads, open_block}
use Rattle.mllp_frame.proofs.ReadSteps.{reads_on, reads_front}
use Rattle.mllp_frame.proofs.Steps.{no_start, some_start}
use Rattle.mllp_frame.proofs.stage.read_outside.Goals as goal

pub returns-in-Some-clause-reads : goal.returns-in-Some-clause-reads
returns-in-Some-clause-reads c =
    let found = c.in-Some.ensures in
    let piece = c.args.piece.now in
    let old = map event_of c.take_block.new.events.items in
    let new = map event_of c.read_inside.new.events.items in
    let same : old ≡ map event_of c.args.events.now.items = ap (map event_of) (c.in_ok-taken.ensures.none (omega arith)) in
    let here = some_start old piece c.in-Some.at found.0 found.1 in
    IfOk-weaker c.read_inside.result _ _
    (λ next more. subst (λ old. Reads old new piece (open_block next.0 ++ next.1.now)) same (reads_on old old new _ _ _ here (rw c.new.ensures.items at more)))
    c.read_inside.ensures.reads

pub returns-in-None-clause-reads : goal.returns-in-None-clause-reads
returns-in-None-clause-reads c =
    let old = map event_of c.take_block.new.events.items in
    let same : old ≡ map event_of c.args.events.now.items = ap (map event_of) (c.in_ok-taken.ensures.none (omega arith)) in
    subst (λ before. Reads before old c.args.piece.now []) same (no_start old c.args.piece.now c.in-None.ensures)

pub returns-in-Some-clause-err : goal.returns-in-Some-clause-err
returns-in-Some-clause-err c =
    let found = c.in-Some.ensures in
    let piece = c.args.piece.now in
    let old = map event_of c.take_block.new.events.items in
    let new = map event_of c.read_inside.new.events.items in
    let same : old ≡ map event_of c.args.events.now.items = ap (map event_of) (c.in_ok-taken.ensures.none (omega arith)) in
    let here = some_start old piece c.in-Some.at found.0 found.1 in
    on_err_weaker c.read_inside.result
    (λ more. subst (λ old. AddsFront old new (blocks piece)) same (reads_front old old new _ _ here (rw c.new.ensures.items at more)))
    c.read_inside.ensures.err
