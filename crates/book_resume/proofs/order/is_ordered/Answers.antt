use Rattle.std.proofs.Common.{◌≡◌, ◌≤◌, ℕ, List, length, sym, ◌∙◌, subst}
use Rattle.std.specs.Prelude.{All, map}
use Rattle.std.specs.List.Sorted.{IsStrictlyIncreasing}
use Rattle.plan_text.specs.Entries.{PlanEntry}
use Rattle.event_log.specs.History.{Remembered}
use Rattle.book_resume.specs.inner.Order.{IsInOrder}
use Rattle.book_resume.proofs.InOrder.{few-tested}
use Rattle.book_resume.proofs.order.is_ordered.Goals as goal

pub owed_of-requires : goal.owed_of-requires
owed_of-requires c =
    let o = c.args.opening.now in
    let value : c.remembered-arrivals.result.now ≡ o.remembered = c.remembered-arrivals.ensures.value in
    let arrivals : All (IsInOrder o.plan o.places) o.remembered
    = subst (λ (p : PlanEntry). All (IsInOrder p o.places) o.remembered) (c.deref.ensures ∙ c.plan-plan.ensures)
    (subst (λ (k : ℕ). All (IsInOrder c.deref.result.now k) o.remembered) c.places-places.ensures
    (subst (All (IsInOrder c.deref.result.now c.places-places.result)) value (c.in_ok-are_in_order.ensures.0 c.if-not-branch.false))) in
    let rise : IsStrictlyIncreasing (map (λ r. r.place) o.remembered)
    = subst (λ (rs : List Remembered). IsStrictlyIncreasing (map (λ r. r.place) rs)) value c.remembered-arrivals.ensures.places in
    subst (λ (rs : List Remembered). length rs ≤ 1001000000) (sym value)
    (few-tested o (c.has_bounds.ensures.0 c.if-not-has_bounds.false) arrivals rise)
