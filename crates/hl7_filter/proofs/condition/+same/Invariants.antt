use Rattle.std.proofs.Common.{◌≡◌, drop}
use Rattle.hl7_filter.specs.inner.View.{conditions_view}
use Rattle.hl7_filter.proofs.condition.+same.Given as goal

abbrev pub invariant-same_conds-loop-cond : goal.invariant-same_conds-loop-cond
invariant-same_conds-loop-cond l = record {
  onward : conditions_view l.conds ≡ conditions_view l.others → conditions_view (drop l.cond-index l.conds) ≡ conditions_view l.rest;
  back : conditions_view (drop l.cond-index l.conds) ≡ conditions_view l.rest → conditions_view l.conds ≡ conditions_view l.others;
}
