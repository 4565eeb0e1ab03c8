use Rattle.std.proofs.Common.{◌≡◌, rules}
use Rattle.std.proofs.lemmas.Slice.Eq.{bytes_eq-Decides, slice_eq-Decides}
use Rattle.hl7_filter.proofs.Alike.{alike_at_end}
use Rattle.hl7_filter.proofs.Views.{view-OneOf, one_of_alike}
use Rattle.hl7_filter.proofs.condition.+same.Goals as goal

pub same_conds-returns : goal.same_conds-returns
same_conds-returns t c = alike_at_end c.args.conds.now c.args.others.now c.loop-cond.rest.now c.loop-cond.cond-index c.is_empty.result c.loop-cond-test.false
    c.loop-cond.invariant.onward c.loop-cond.invariant.back c.is_empty.ensures

pub Cond::same-returns-then-eq-2 : goal.Cond::same-returns-then-eq-2
Cond::same-returns-then-eq-2 t c =
    let same_path : c.in-OneOf-OneOf.path ≡ c.in-OneOf-OneOf.place = search rules in
    rw (c.in-OneOf-OneOf.is-0, c.in-OneOf-OneOf.is-1, view-OneOf c.in-OneOf-OneOf.path c.in-OneOf-OneOf.texts, view-OneOf c.in-OneOf-OneOf.place c.in-OneOf-OneOf.others)
    (one_of_alike _ _ _ _ _ same_path (slice_eq-Decides bytes_eq-Decides _ _ _ c.eq-then-eq-2.ensures))
