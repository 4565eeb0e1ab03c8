use Rattle.std.proofs.Common.{◌∙◌, ap, refl, arith}
use Rattle.std.proofs.KnownBytes.{Keeps-trans}
use Rattle.delivery_worker.specs.declared.report.DeliverReport.{DeliverReport}
use Rattle.delivery_worker.proofs.Calls.{calls_add, calls_end, calls_none, calls_within}
use Rattle.delivery_worker.proofs.Delivered.{attempted, counted_taken, delivers, refused, starts}
use Rattle.delivery_worker.proofs.InLog.{no_turn}
use Rattle.delivery_worker.proofs.worker.deliver.Goals.{in-Ok, in-Err+in-Err}
use Rattle.delivery_worker.proofs.worker.deliver.Goals as goal

pub turns-init : goal.turns-init
turns-init g c = record {
  so_far = starts _ _ _ _ _ _ _ c.new-connection.ensures c.new-report.ensures;
  leads = refl;
  calls = calls_within _ _ 0 _ (calls_none _) (omega arith);
}

pub turns-preserved : goal.turns-preserved
turns-preserved g c =
    elim c.match-take_turn.branch [
      | in-Ok w ↦
          let is = w.report-is ∙ w.count.ensures in
          let taken = ap (λ (r : DeliverReport). r.taken) is ∙ counted_taken _ _ in record {
            so_far = attempted _ _ _ _ _ _ _ _ _ _ _ _ _ _ _ _ _ c.turns.invariant.so_far w.in-Ok.ensures.attempt w.in-Ok.ensures.taken w.in-Ok.ensures.settled is;
            leads = c.take_turn.ensures.leads ∙ c.turns.invariant.leads;
            calls = calls_add _ _ _ _ _ _ c.turns.invariant.calls w.in-Ok.ensures.receives (omega (arith, taken));
          }
      | in-Err+in-Err w ↦ record {
        so_far = refused _ _ _ _ _ _ _ _ _ _ _ _ _ _ _ _ c.turns.invariant.so_far w.in-Err.ensures.refused w.in-Err.ensures.untaken w.in-Err.ensures.unused w.report-is;
        leads = c.take_turn.ensures.leads ∙ c.turns.invariant.leads;
        calls = calls_add _ _ _ _ _ _ c.turns.invariant.calls w.in-Err.ensures.uncalled (omega (arith, ap (λ (r : DeliverReport). r.taken) w.report-is));
      }
    ]

pub returns-in-Err-Refused-Idle-clause-attempts : goal.returns-in-Err-Refused-Idle-clause-attempts
returns-in-Err-Refused-Idle-clause-attempts g c =
    delivers _ _ _ _ _ _ _ _ _ _ _ _ _ _ _ c.turns.invariant.so_far c.in-Err-Refused-Idle.ensures.untaken (Keeps-trans _ _ _ c.in-Err-Refused-Idle.ensures.unused.0 c.finish.ensures.sent)
    (Keeps-trans _ _ _ c.in-Err-Refused-Idle.ensures.unused.1 c.finish.ensures.received) refl refl refl refl

pub returns-clause-attempts : goal.returns-clause-attempts
returns-clause-attempts g c =
    delivers _ _ _ _ _ _ _ _ _ _ _ _ _ _ _ c.turns.invariant.so_far (no_turn _ _ _ _ refl) c.finish-2.ensures.sent c.finish-2.ensures.received refl refl refl refl

pub returns-in-Err-Refused-Idle-clause-receives : goal.returns-in-Err-Refused-Idle-clause-receives
returns-in-Err-Refused-Idle-clause-receives g c = calls_end _ _ _ _ _ c.turns.invariant.calls c.in-Err-Refused-Idle.ensures.uncalled c.finish.ensures.receives

pub returns-clause-receives : goal.returns-clause-receives
returns-clause-receives g c = calls_end _ _ _ _ _ c.turns.invariant.calls (calls_none _) c.finish-2.ensures.receives
