use Rattle.std.proofs.Common.{◌≡◌, true, drop}
use Rattle.hl7_filter.specs.Condition.{all_true, any_true}
use Rattle.hl7_filter.specs.inner.Condition.{all_compare_unescaped}
use Rattle.hl7_filter.specs.inner.View.{conditions_view}
use Rattle.hl7_filter.proofs.condition.+holds.Given as goal

abbrev pub invariant-all_hold-loop-cond : goal.invariant-all_hold-loop-cond
invariant-all_hold-loop-cond l = record {
  same : all_true l.message (conditions_view l.conds) ≡ all_true l.message (conditions_view (drop l.cond-index l.conds));
  unescaped : all_compare_unescaped l.message (conditions_view l.conds) ≡ true → all_compare_unescaped l.message (conditions_view (drop l.cond-index l.conds)) ≡ true;
}

abbrev pub invariant-any_holds-loop-cond : goal.invariant-any_holds-loop-cond
invariant-any_holds-loop-cond l = record {
  same : any_true l.message (conditions_view l.conds) ≡ any_true l.message (conditions_view (drop l.cond-index l.conds));
  unescaped : all_compare_unescaped l.message (conditions_view l.conds) ≡ true → all_compare_unescaped l.message (conditions_view (drop l.cond-index l.conds)) ≡ true;
}
