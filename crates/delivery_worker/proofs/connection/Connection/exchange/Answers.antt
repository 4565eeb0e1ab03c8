use Rattle.std.proofs.Common.{◌∙◌, List, ℕ, ap, refl}
use Rattle.delivery_worker.specs.Answers.{outcome_of}
use Rattle.delivery_worker.specs.declared.connection.Connection.{Connection}
use Rattle.delivery_worker.proofs.Delivered.{tried_in_vain, tried_nothing, tried_reading, tried_sending}
use Rattle.delivery_worker.proofs.connection.Connection.exchange.Goals.{in-Ok-receive_answers, in-Err-Failed-receive_answers}
use Rattle.delivery_worker.proofs.connection.Connection.exchange.Goals as goal

pub returns-in-Err-Unanswered-clause-err : goal.returns-in-Err-Unanswered-clause-err
returns-in-Err-Unanswered-clause-err g c = tried_nothing _ _ _ _ _ _ _ _ _ refl c.in-Err-Unanswered.ensures.unsent c.send_block.ensures.received

pub returns-in-Err-Failed-clause-ok : goal.returns-in-Err-Failed-clause-ok
returns-in-Err-Failed-clause-ok g c = tried_nothing _ _ _ _ _ _ _ _ _ c.requires.none c.in-Err-Failed.ensures.unsent c.send_block.ensures.received

pub returns-then-not-job-clause-ok : goal.returns-then-not-job-clause-ok
returns-then-not-job-clause-ok g c =
    tried_sending _ _ _ _ _ _ _ _ _ c.in-Ok.ensures.sent c.as_slice.ensures c.send_block.ensures.received c.if-not-job.true

pub returns-in-Err-Unanswered-receive_answers-clause-err : goal.returns-in-Err-Unanswered-receive_answers-clause-err
returns-in-Err-Unanswered-receive_answers-clause-err g c =
    let nothing = rw c.in-Err-Unanswered-receive_answers.field-0-is at c.in-Err-Unanswered-receive_answers.ensures.unanswered refl in
    tried_in_vain _ _ _ _ _ _ _ _ _ _ _ c.in-Ok.ensures.sent c.as_slice.ensures c.receive_answers.ensures.kept c.send_block.ensures.received nothing.0 c.if-not-job.false

pub returns-clause-ok : goal.returns-clause-ok
returns-clause-ok g c =
    let decides = c.decided-decision.ensures ∙ ap (λ (id : List ℕ). outcome_of id c.deref.result.now) c.as_slice-control_id.ensures ∙ ap (outcome_of c.args.job.now.control_id) c.deref.ensures.value in
    elim c.match-receive_answers.branch [
      | in-Ok-receive_answers w ↦ tried_reading _ _ _ _ _ _ _ _ _ _ _ _ _ _ _ _ c.in-Ok.ensures.sent c.as_slice.ensures c.receive_answers.ensures.kept c.send_block.ensures.received
          w.in-Ok-receive_answers.ensures.ok c.clear.ensures.items (ap (λ (s : Connection). s.framer) w.self-is)
          (decides ∙ ap (λ (s : Connection). outcome_of c.args.job.now.control_id s.answers.items) w.self-is) c.if-not-job.false
      | in-Err-Failed-receive_answers w ↦ tried_reading _ _ _ _ _ _ _ _ _ _ _ _ _ _ _ _ c.in-Ok.ensures.sent c.as_slice.ensures c.receive_answers.ensures.kept c.send_block.ensures.received
          (rw w.in-Err-Failed-receive_answers.field-0-is at w.in-Err-Failed-receive_answers.ensures.failed refl) c.clear.ensures.items
          (ap (λ (s : Connection). s.framer) w.self-is ∙ c.requires.none)
          (decides ∙ ap (λ (s : Connection). outcome_of c.args.job.now.control_id s.answers.items) w.self-is) c.if-not-job.false
    ]
