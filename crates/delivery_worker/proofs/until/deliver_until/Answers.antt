use Rattle.std.proofs.Common.{◌∙◌, ap, refl, arith}
use Rattle.std.proofs.KnownBytes.{Keeps-trans}
use Rattle.delivery_worker.specs.declared.report.DeliverReport.{DeliverReport}
use Rattle.delivery_worker.proofs.Afresh.{attempted, delivers, paused, starts}
use Rattle.delivery_worker.proofs.ByRule.{none_taken, none_yet, taken_then}
use Rattle.delivery_worker.proofs.Calls.{calls_add, calls_end, calls_none, calls_within}
use Rattle.delivery_worker.proofs.Delivered.{counted_taken}
use Rattle.delivery_worker.proofs.InLog.{no_turn}
use Rattle.delivery_worker.proofs.until.deliver_until.Goals.{in-Ok, in-Err-NotDurable, in-Err-NotYet}
use Rattle.delivery_worker.proofs.until.deliver_until.Goals as goal

pub turns-init : goal.turns-init
turns-init g c = record {
  so_far = starts _ _ _ _ _ _ c.new-report.ensures;
  by_rule = none_yet _ _ _;
  leads = refl;
  calls = calls_within _ _ 0 _ (calls_none _) (omega arith);
}

pub turns-preserved : goal.turns-preserved
turns-preserved g c =
    elim c.match-turn_afresh.branch [
      | in-Ok w ↦
          let is = w.report-is ∙ w.count.ensures in
          let taken = ap (λ (r : DeliverReport). r.taken) is ∙ counted_taken _ _ in record {
            so_far = attempted _ _ _ _ _ _ _ _ _ _ _ _ _ _ _ _ c.turns.invariant.so_far w.in-Ok.ensures.attempt w.in-Ok.ensures.taken w.in-Ok.ensures.settled is;
            by_rule = taken_then _ _ _ _ _ c.turns.invariant.by_rule w.in-Ok.ensures.by_rule;
            leads = c.turn_afresh.ensures.leads ∙ c.turns.invariant.leads;
            calls = calls_add _ _ _ _ _ _ c.turns.invariant.calls w.in-Ok.ensures.receives (omega (arith, taken));
          }
      | in-Err-NotDurable w ↦ record {
        so_far = paused _ _ _ _ _ _ _ _ _ _ _ _ _ _ c.turns.invariant.so_far w.in-Err-NotDurable.ensures.refused w.in-Err-NotDurable.ensures.untaken w.in-Err-NotDurable.ensures.unused w.report-is;
        by_rule = taken_then _ _ _ _ _ c.turns.invariant.by_rule (none_taken _ _ _ _ _ w.in-Err-NotDurable.ensures.untaken);
        leads = c.turn_afresh.ensures.leads ∙ c.turns.invariant.leads;
        calls = calls_add _ _ _ _ _ _ c.turns.invariant.calls w.in-Err-NotDurable.ensures.uncalled (omega (arith, ap (λ (r : DeliverReport). r.taken) w.report-is));
      }
      | in-Err-NotYet w ↦ record {
        so_far = paused _ _ _ _ _ _ _ _ _ _ _ _ _ _ c.turns.invariant.so_far w.in-Err-NotYet.ensures.refused w.in-Err-NotYet.ensures.untaken w.in-Err-NotYet.ensures.unused w.report-is;
        by_rule = taken_then _ _ _ _ _ c.turns.invariant.by_rule (none_taken _ _ _ _ _ w.in-Err-NotYet.ensures.untaken);
        leads = c.turn_afresh.ensures.leads ∙ c.turns.invariant.leads;
        calls = calls_add _ _ _ _ _ _ c.turns.invariant.calls w.in-Err-NotYet.ensures.uncalled (omega (arith, ap (λ (r : DeliverReport). r.taken) w.report-is));
      }
    ]

pub returns-then-is_halted-clause-attempts : goal.returns-then-is_halted-clause-attempts
returns-then-is_halted-clause-attempts g c =
    delivers _ _ _ _ _ _ _ _ _ _ _ _ _ _ c.turns.invariant.so_far (no_turn _ _ _ _ refl) c.finish.ensures.sent c.finish.ensures.received refl refl refl refl

pub returns-in-Err-Ended-clause-attempts : goal.returns-in-Err-Ended-clause-attempts
returns-in-Err-Ended-clause-attempts g c =
    delivers _ _ _ _ _ _ _ _ _ _ _ _ _ _ c.turns.invariant.so_far c.in-Err-Ended.ensures.untaken (Keeps-trans _ _ _ c.in-Err-Ended.ensures.unused.0 c.finish-in-Err-Ended.ensures.sent)
    (Keeps-trans _ _ _ c.in-Err-Ended.ensures.unused.1 c.finish-in-Err-Ended.ensures.received) refl refl refl refl

pub returns-clause-attempts : goal.returns-clause-attempts
returns-clause-attempts g c = delivers _ _ _ _ _ _ _ _ _ _ _ _ _ _ c.turns.invariant.so_far (no_turn _ _ _ _ refl) c.finish-2.ensures.sent c.finish-2.ensures.received refl refl refl refl

pub returns-then-is_halted-clause-receives : goal.returns-then-is_halted-clause-receives
returns-then-is_halted-clause-receives g c = calls_end _ _ _ _ _ c.turns.invariant.calls (calls_none _) c.finish.ensures.receives

pub returns-in-Err-Ended-clause-receives : goal.returns-in-Err-Ended-clause-receives
returns-in-Err-Ended-clause-receives g c = calls_end _ _ _ _ _ c.turns.invariant.calls c.in-Err-Ended.ensures.uncalled c.finish-in-Err-Ended.ensures.receives

pub returns-clause-receives : goal.returns-clause-receives
returns-clause-receives g c = calls_end _ _ _ _ _ c.turns.invariant.calls (calls_none _) c.finish-2.ensures.receives

pub returns-then-is_halted-clause-by_rule : goal.returns-then-is_halted-clause-by_rule
returns-then-is_halted-clause-by_rule g c = c.turns.invariant.by_rule

pub returns-in-Err-Ended-clause-by_rule : goal.returns-in-Err-Ended-clause-by_rule
returns-in-Err-Ended-clause-by_rule g c = taken_then _ _ _ _ _ c.turns.invariant.by_rule (none_taken _ _ _ _ _ c.in-Err-Ended.ensures.untaken)

pub returns-clause-by_rule : goal.returns-clause-by_rule
returns-clause-by_rule g c = c.turns.invariant.by_rule
