use Rattle.std.proofs.Common.{refl, sym, ◌∙◌, ap, subst}
use Rattle.book_lock.specs.Rises.{SharedBook}
use Rattle.book_lock.proofs.Following.{unchanged}
use Rattle.std.proofs.Common.{◌≤◌, ◌-◌, cond, nat_lt, None, Some}
use Rattle.event_log.specs.declared.refusal.PruneRefusal.TheVariants.{TooMany}
use Rattle.event_log.specs.Folding.{is_live_message, prune_answer}
use Rattle.event_log.specs.History.{message_count}
use Rattle.book_core.specs.inner.Questions.{settled_before}
use Rattle.book_lock.proofs.Logging.{book_same}
use Rattle.book_lock.specs.inner.Counts.{count_in, is_arrival, is_settlement, is_take}
use Rattle.book_lock.proofs.locked.Locked.settled_before.Goals as goal

pub invariant_of-self : goal.invariant_of-self
invariant_of-self g c =
    let h : SharedBook = record { book = c.self.inside.book; opening = c.self.inside.opening; first = c.self.inside.first; admitted = c.self.inside.admitted } in
    let n = unchanged h c.settled_before.new.self g.A.Sharing.counts g.A.Sharing.first g.A.Sharing.channels
    (count_in is_arrival c.self.inside.log.0) (count_in is_take c.self.inside.log.0) (count_in is_settlement c.self.inside.log.0)
    c.settled_before.ensures.unchanged c.self.invariant.0 c.self.invariant.1 in
    (n.0, n.1, book_same g.A.Sharing.opening c.self.inside.log.0 c.self.inside.log.0 c.self.inside.book c.settled_before.new.self c.self.invariant.2 refl c.settled_before.ensures.unchanged, c.self.invariant.3, c.self.invariant.4, c.self.invariant.5, c.self.invariant.6)

pub returns-clause-before : goal.returns-clause-before
returns-clause-before g c = c.settled_before.ensures.before ∙ ap (λ (h : SharedBook). settled_before c.args.keep h.book) c.self.view_is

pub returns-clause-kept : goal.returns-clause-kept
returns-clause-kept g c = subst (λ (h : SharedBook). c.settled_before.result ≤ message_count h.book - c.args.keep) c.self.view_is c.settled_before.ensures.kept

pub returns-clause-settled : goal.returns-clause-settled
returns-clause-settled g c = λ n below. ap (λ (h : SharedBook). is_live_message h.book n) (sym c.self.view_is) ∙ c.settled_before.ensures.settled n below

pub returns-clause-answer : goal.returns-clause-answer
returns-clause-answer g c =
    ap (λ (h : SharedBook). prune_answer h.book c.settled_before.result) (sym c.self.view_is)
    ∙ (c.settled_before.ensures.answer ∙ ap (λ (h : SharedBook). cond (nat_lt h.book.opening.prunings 1000) None (Some TooMany)) c.self.view_is)
