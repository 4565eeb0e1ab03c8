use Rattle.std.proofs.Common.{◌≡◌, ◌∙◌, None, Some, true, false, sym, ap}
use Rattle.std.specs.Prelude.{option_map}
use Rattle.std.specs.Result.{result_ok}
use Rattle.er7_tree.specs.Tree.{text_of}
use Rattle.hl7_transform.specs.Step.{after_steps}
use Rattle.judge_core.specs.inner.Outgoing.{listed}
use Rattle.judge_core.specs.Judging.{passes}
use Rattle.judge_core.proofs.Sending.{stopped-skip, all-skip, stopped-send, all-send, stopped-stop, all-stop}
use Rattle.judge_core.proofs.delivery.by_routes.Goals.{then-branch+in_ok-text+in-Some+in_ok-all-in-Some, then-branch+in_ok-text+in-None, else-branch}
use Rattle.judge_core.proofs.delivery.by_routes.Goals as goal

pub loop-route-preserved : goal.loop-route-preserved
loop-route-preserved c =
    let t = c.args.message.now in
    let routes = c.args.routes.now in
    let i = c.loop-route.route-index in
    let r = c.route-item.result in
    let tested : c.in_ok-passes.field-0 ≡ passes t r.filter = rw c.filter.ensures at c.in_ok-passes.ensures in
    elim c.if-branch.branch [
      | then-branch+in_ok-text+in-Some+in_ok-all-in-Some w ↦
          let lets : passes t r.filter ≡ true = sym tested ∙ w.if-branch.true in
          let text : Some w.in-Some.text ≡ option_map text_of (result_ok (after_steps r.steps t)) = rw (← w.steps.ensures) (sym w.in-Some.is ∙ w.in_ok-text.ensures) in
          record {
            stopped = w.stopped-is ∙ (c.loop-route.invariant.stopped ∙ sym (stopped-send t routes i r c.loop-route-test.true c.route-item.is lets w.in-Some.text text));
            all = ap listed w.all-is ∙ (w.in_ok-all-in-Some.ensures ∙ rw (w.to.ensures, c.loop-route.invariant.all) (sym (all-send t routes i r c.loop-route-test.true c.route-item.is lets w.in-Some.text text)));
          }
      | then-branch+in_ok-text+in-None w ↦
          let lets : passes t r.filter ≡ true = sym tested ∙ w.if-branch.true in
          let text : None ≡ option_map text_of (result_ok (after_steps r.steps t)) = rw (← w.steps.ensures) (sym w.in-None.is ∙ w.in_ok-text.ensures) in
          record {
            stopped = w.stopped-is ∙ sym (stopped-stop t routes i r c.loop-route-test.true c.route-item.is lets text);
            all = ap listed w.all-is ∙ (c.loop-route.invariant.all ∙ sym (all-stop t routes i r c.loop-route-test.true c.route-item.is lets text));
          }
      | else-branch w ↦
          let lets : passes t r.filter ≡ false = sym tested ∙ w.if-branch.false in
          record {
            stopped = w.stopped-is ∙ (c.loop-route.invariant.stopped ∙ sym (stopped-skip t routes i r c.loop-route-test.true c.route-item.is lets));
            all = ap listed w.all-is ∙ (c.loop-route.invariant.all ∙ sym (all-skip t routes i r c.loop-route-test.true c.route-item.is lets));
          }
    ]
