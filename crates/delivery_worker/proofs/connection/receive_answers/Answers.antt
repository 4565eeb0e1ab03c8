use Rattle.std.proofs.Common.{◌∙◌, arith, refl}
use Rattle.std.proofs.KnownBytes.{Keeps-refl, Keeps-trans}
use Rattle.conn_worker.proofs.Pieces.{StreamLaws}
use Rattle.delivery_worker.proofs.Calls.{calls_add, calls_none, calls_same, calls_then, calls_up, calls_within}
use Rattle.delivery_worker.proofs.Streams.{receives_bytes, receives_bytes_lost, receives_front, receives_lost, receives_none, receives_read}
use Rattle.delivery_worker.proofs.connection.receive_answers.Goals as goal

pub receives-init : goal.receives-init
receives-init g c = record { receives = receives_none _ _ _; first = λ _. Keeps-refl _; uncalled = λ _. calls_same _; kept = Keeps-refl _; calls = calls_none _; leads = refl }

pub returns-in-Ok-Enough-clause-ok : goal.returns-in-Ok-Enough-clause-ok
returns-in-Ok-Enough-clause-ok g c = receives_read _ _ _ _ _ _ _ _ c.receives.invariant.receives c.in-Ok-Enough.ensures.read

pub returns-in-Ok-Enough-clause-receives : goal.returns-in-Ok-Enough-clause-receives
returns-in-Ok-Enough-clause-receives g c = calls_within _ _ _ _ c.receives.invariant.calls c.receives.auto.n-end

pub returns-in-Err-clause-failed : goal.returns-in-Err-clause-failed
returns-in-Err-clause-failed g c = λ _. receives_front _ _ _ _ _ _ _ c.receives.invariant.receives c.in-Err.ensures.front

pub returns-in-Err-clause-receives : goal.returns-in-Err-clause-receives
returns-in-Err-clause-receives g c = calls_within _ _ _ _ c.receives.invariant.calls c.receives.auto.n-end

pub returns-in-Err-Unanswered-clause-unanswered : goal.returns-in-Err-Unanswered-clause-unanswered
returns-in-Err-Unanswered-clause-unanswered g c = λ is. (
  Keeps-trans _ _ _ (c.receives.invariant.first c.if-n-eq0.true) (rw c.in-Err-Unanswered.field-0-is at c.in-Err-Unanswered.ensures.unanswered is),
  calls_then _ _ _ _ _ _ (c.receives.invariant.uncalled c.if-n-eq0.true) c.receive_piece.ensures.receives (omega arith),
)

pub returns-in-Err-Unanswered-clause-receives : goal.returns-in-Err-Unanswered-clause-receives
returns-in-Err-Unanswered-clause-receives g c =
    calls_add _ _ _ _ _ _ c.receives.invariant.calls (calls_up _ _ _ c.receive_piece.ensures.receives) (omega (arith, c.receives-test.true))

pub returns-in-Err-receive_piece-clause-failed : goal.returns-in-Err-receive_piece-clause-failed
returns-in-Err-receive_piece-clause-failed g c =
    let laws : StreamLaws = record { blocks_are = c.longer_streams.ensures.blocks; end_is = c.longer_streams.ensures.end } in
    λ _. receives_bytes_lost laws _ _ _ _ _ _ _ (receives_read _ _ _ _ _ _ _ _ c.receives.invariant.receives c.in-Ok-All.ensures.read) c.in-Err-receive_piece.ensures.lost

pub returns-in-Err-receive_piece-clause-receives : goal.returns-in-Err-receive_piece-clause-receives
returns-in-Err-receive_piece-clause-receives g c =
    calls_add _ _ _ _ _ _ c.receives.invariant.calls (calls_up _ _ _ c.receive_piece.ensures.receives) (omega (arith, c.receives-test.true))

pub returns-in-Err-receive_piece-2-clause-failed : goal.returns-in-Err-receive_piece-2-clause-failed
returns-in-Err-receive_piece-2-clause-failed g c =
    let laws : StreamLaws = record { blocks_are = c.longer_streams.ensures.blocks; end_is = c.longer_streams.ensures.end } in
    λ _. receives_bytes_lost laws _ _ _ _ _ _ _ (receives_read _ _ _ _ _ _ _ _ c.receives.invariant.receives c.in-Ok-All.ensures.read) c.in-Err-receive_piece.ensures.lost

pub returns-in-Err-receive_piece-2-clause-receives : goal.returns-in-Err-receive_piece-2-clause-receives
returns-in-Err-receive_piece-2-clause-receives g c =
    calls_add _ _ _ _ _ _ c.receives.invariant.calls (calls_up _ _ _ c.receive_piece.ensures.receives) (omega (arith, c.receives-test.true))

pub receives-preserved : goal.receives-preserved
receives-preserved g c =
    let laws : StreamLaws = record { blocks_are = c.longer_streams.ensures.blocks; end_is = c.longer_streams.ensures.end } in
    record {
      receives = receives_bytes laws _ _ _ _ _ _ _ _ (receives_read _ _ _ _ _ _ _ _ c.receives.invariant.receives c.in-Ok-All.ensures.read) c.in-Ok.ensures.ok;
      first = λ is. absurd (omega (arith, is));
      uncalled = λ is. absurd (omega (arith, is));
      kept = Keeps-trans _ _ _ c.receives.invariant.kept c.receive_piece.ensures.kept;
      calls = calls_add _ _ _ _ _ _ c.receives.invariant.calls (calls_up _ _ _ c.receive_piece.ensures.receives) (omega arith);
      leads = c.receive_piece.ensures.leads ∙ c.receives.invariant.leads;
    }

pub returns-in-Ok-Enough-take_answers-clause-ok : goal.returns-in-Ok-Enough-take_answers-clause-ok
returns-in-Ok-Enough-take_answers-clause-ok g c = receives_read _ _ _ _ _ _ _ _ c.receives.invariant.receives c.in-Ok-Enough-take_answers.ensures.read

pub returns-in-Ok-Enough-take_answers-clause-receives : goal.returns-in-Ok-Enough-take_answers-clause-receives
returns-in-Ok-Enough-take_answers-clause-receives g c = calls_within _ _ _ _ c.receives.invariant.calls c.receives.auto.n-end

pub returns-in-Ok-All-take_answers-clause-failed : goal.returns-in-Ok-All-take_answers-clause-failed
returns-in-Ok-All-take_answers-clause-failed g c =
    λ _. receives_lost _ _ _ _ _ _ (receives_read _ _ _ _ _ _ _ _ c.receives.invariant.receives c.in-Ok-All-take_answers.ensures.read)

pub returns-in-Ok-All-take_answers-clause-receives : goal.returns-in-Ok-All-take_answers-clause-receives
returns-in-Ok-All-take_answers-clause-receives g c = calls_within _ _ _ _ c.receives.invariant.calls c.receives.auto.n-end

pub returns-in-Err-take_answers-clause-failed : goal.returns-in-Err-take_answers-clause-failed
returns-in-Err-take_answers-clause-failed g c = λ _. receives_front _ _ _ _ _ _ _ c.receives.invariant.receives c.in-Err-take_answers.ensures.front

pub returns-in-Err-take_answers-clause-receives : goal.returns-in-Err-take_answers-clause-receives
returns-in-Err-take_answers-clause-receives g c = calls_within _ _ _ _ c.receives.invariant.calls c.receives.auto.n-end

pub returns-in-Ok-First-clause-ok : goal.returns-in-Ok-First-clause-ok
returns-in-Ok-First-clause-ok g c = receives_read _ _ _ _ _ _ _ _ c.receives.invariant.receives c.in-Ok-First.ensures.read

pub returns-in-Ok-First-clause-receives : goal.returns-in-Ok-First-clause-receives
returns-in-Ok-First-clause-receives g c = calls_within _ _ _ _ c.receives.invariant.calls c.receives.auto.n-end

pub returns-in-Ok-First-take_answers-clause-ok : goal.returns-in-Ok-First-take_answers-clause-ok
returns-in-Ok-First-take_answers-clause-ok g c = receives_read _ _ _ _ _ _ _ _ c.receives.invariant.receives c.in-Ok-First-take_answers.ensures.read

pub returns-in-Ok-First-take_answers-clause-receives : goal.returns-in-Ok-First-take_answers-clause-receives
returns-in-Ok-First-take_answers-clause-receives g c = calls_within _ _ _ _ c.receives.invariant.calls c.receives.auto.n-end
