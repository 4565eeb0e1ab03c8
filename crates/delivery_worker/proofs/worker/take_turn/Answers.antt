use Rattle.std.proofs.Common.{Result, Ok, Err, OnErr, sym, ◌∙◌, arith}
use Rattle.delivery_worker.proofs.ByRule.{one_taken}
use Rattle.delivery_worker.proofs.Calls.{calls_add, calls_up}
use Rattle.delivery_worker.proofs.Delivered.{tries_told}
use Rattle.delivery_worker.proofs.InLog.{not_taken, one_turn, taken_to}
use Rattle.delivery_worker.proofs.worker.take_turn.Goals as goal

on_err : {T E P : Type 0} (r : Result T E) → P → OnErr r P
on_err (Ok x) p = tt
on_err (Err e) p = p

pub attempt-outcome-requires-clause-leads : goal.attempt-outcome-requires-clause-leads
attempt-outcome-requires-clause-leads g c = c.requires.leads ∙ sym (taken_to _ _ _ _ _ _ c.in_ok-job.ensures.taken)

pub returns-clause-attempt : goal.returns-clause-attempt
returns-clause-attempt g c =
    tries_told _ _ _ _ _ _ _ _ _ _ _ _ _ c.attempt-outcome.ensures.tries.0 c.settled.ensures.sent c.settled.ensures.received
    (one_turn _ _ _ _ _ _ _ _ _ _ _ c.in_ok-job.ensures.taken c.attempt-outcome.ensures.tries.1 c.attempt-outcome.ensures.tries.0.outcome c.settle.ensures.call)

pub returns-clause-receives : goal.returns-clause-receives
returns-clause-receives g c = calls_add _ _ _ _ _ _ c.attempt-outcome.ensures.receives (calls_up _ _ _ c.settled.ensures.receives) (omega arith)

pub returns-in_err-job-clause-untaken : goal.returns-in_err-job-clause-untaken
returns-in_err-job-clause-untaken g c = on_err _ (not_taken _ _ _ _ _ _ _ c.in_err-job.ensures.not_taken)

pub returns-clause-by_rule : goal.returns-clause-by_rule
returns-clause-by_rule g c =
    one_taken _ _ _ _ _ _ _ _ _ _ _ c.in_ok-job.ensures.taken c.in_ok-job.ensures.durable c.settle.ensures.call
