use Rattle.std.proofs.Common.{◌≡◌, None, ◌∙◌, ap, subst}
use Rattle.event_log.specs.Folding.{prune_answer, pruned}
use Rattle.book_lock.specs.Rises.{SharedBook}
use Rattle.book_lock.specs.inner.Rises.{with_book}
use Rattle.book_lock.proofs.Settling.{made}
use Rattle.book_lock.proofs.locked.Locked.prune_settled.Goals as goal

pub returns-clause-folded : goal.returns-clause-folded
returns-clause-folded g c =
    c.in_ok-prune_keeping.ensures.folded ∙ ap (λ (h : SharedBook). with_book h (pruned c.settled_before-before.result h.book)) c.settled_before-before.ensures.same

pub returns-clause-left : goal.returns-clause-left
returns-clause-left g c =
    made c.args.self.now c.settled_before-before.result c.settled_before-before.ensures.answer
    (subst (λ (h : SharedBook). prune_answer h.book c.settled_before-before.result ≡ None) c.settled_before-before.ensures.same c.in_ok-prune_keeping.ensures.answer)

pub returns-clause-allowed : goal.returns-clause-allowed
returns-clause-allowed g c =
    subst (λ (h : SharedBook). prune_answer h.book c.settled_before-before.result ≡ None) c.settled_before-before.ensures.same c.in_ok-prune_keeping.ensures.answer
