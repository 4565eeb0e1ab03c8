use Rattle.std.proofs.Common.{◌≡◌, false, not, nat_lt, None, IfSome, sym, ◌∙◌, ap, subst}
use Rattle.std.specs.Prelude.{filter}
use Rattle.event_log.specs.Folding.{prune_answer, pruned}
use Rattle.dest_queue.specs.States.{is_live}
use Rattle.event_log.specs.History.{begun, slot}
use Rattle.event_log.proofs.FoldedAlike.{quiet}
use Rattle.event_log.proofs.FoldedGood.{prunings-left}
use Rattle.book_core.proofs.Settled.{not-live}
use Rattle.book_core.specs.inner.Pruning.{LeavesOut}
use Rattle.book_core.proofs.Folded.{closing-is, closing-owed, closing-places, kept-folded}
use Rattle.book_core.proofs.book.Book.prune.Goals as goal

pub fold-requires-clause-places : goal.fold-requires-clause-places
fold-requires-clause-places g c =
    let may : prune_answer c.self.inside.log.history c.args.before ≡ None = sym c.prune_refusal.ensures.answer ∙ c.in_default.is in
    let left = c.unremembered-forgotten.result in
    let leaves = subst (λ rs. LeavesOut rs c.self.inside.counts left) c.deref.ensures.value c.unremembered-forgotten.ensures in
    closing-places _ _ _ _ _ _ c.self.invariant c.args.before may _ c.arrival_place-floor.ensures _ c.in_ok-remembered.ensures _ leaves

pub fold-requires-clause-owed : goal.fold-requires-clause-owed
fold-requires-clause-owed g c =
    let may : prune_answer c.self.inside.log.history c.args.before ≡ None = sym c.prune_refusal.ensures.answer ∙ c.in_default.is in
    let left = c.unremembered-forgotten.result in
    let leaves = subst (λ rs. LeavesOut rs c.self.inside.counts left) c.deref.ensures.value c.unremembered-forgotten.ensures in
    closing-owed _ _ _ _ _ _ c.self.invariant c.args.before may _ c.arrival_place-floor.ensures _ c.in_ok-remembered.ensures _ leaves

pub fold-requires-clause-few_prunings : goal.fold-requires-clause-few_prunings
fold-requires-clause-few_prunings g c =
    let may : prune_answer c.self.inside.log.history c.args.before ≡ None = sym c.prune_refusal.ensures.answer ∙ c.in_default.is in
    prunings-left c.self.inside.log.history c.args.before may

pub invariant_of-self-2 : goal.invariant_of-self-2
invariant_of-self-2 g c =
    let may : prune_answer c.self.inside.log.history c.args.before ≡ None = sym c.prune_refusal.ensures.answer ∙ c.in_default.is in
    let left = c.unremembered-forgotten.result in
    let leaves = subst (λ rs. LeavesOut rs c.self.inside.counts left) c.deref.ensures.value c.unremembered-forgotten.ensures in
    kept-folded _ _ _ _ _ _ c.self.invariant c.args.before may _ c.arrival_place-floor.ensures _ c.in_ok-remembered.ensures _ leaves
    c.fold.new.self.history c.in_ok-fold.ensures.history (g.S.RowStore.rows c.forget_rows.new.rows)
    (c.forget_rows.ensures ∙ ap (filter (λ row. not (nat_lt row.number c.args.before))) c.prune_refusal.ensures.unchanged)
    c.drop_before.new.self.known c.fold.new.self.room c.drop_before.ensures.found c.in_ok-fold.ensures.room

pub returns-clause-folded : goal.returns-clause-folded
returns-clause-folded g c =
    let may : prune_answer c.self.inside.log.history c.args.before ≡ None = sym c.prune_refusal.ensures.answer ∙ c.in_default.is in
    let left = c.unremembered-forgotten.result in
    let leaves = subst (λ rs. LeavesOut rs c.self.inside.counts left) c.deref.ensures.value c.unremembered-forgotten.ensures in
    c.in_ok-fold.ensures.history
    ∙ (ap begun (closing-is _ _ _ _ _ _ c.self.invariant c.args.before may _ c.arrival_place-floor.ensures _ c.in_ok-remembered.ensures _ leaves)
    ∙ ap (pruned c.args.before) c.self.view_is)

pub returns-clause-settled : goal.returns-clause-settled
returns-clause-settled g c = λ n d below.
    let may : prune_answer c.self.inside.log.history c.args.before ≡ None = sym c.prune_refusal.ensures.answer ∙ c.in_default.is in
    subst (λ h. IfSome (slot h n d) (λ state. is_live state ≡ false)) c.self.view_is
    (not-live (slot c.self.inside.log.history n d) (quiet c.self.inside.log.history c.self.invariant.sound c.args.before may n d below))
