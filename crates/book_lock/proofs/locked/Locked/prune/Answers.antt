use Rattle.std.specs.Prelude.{IfSome, Option}
use Rattle.std.proofs.Common.{refl, ◌≡◌, None, ap, subst, ℕ, ◌∙◌, Ok, ◌++◌, ◌∷◌, []}
use Rattle.event_log.specs.Folding.{prune_answer, pruned}
use Rattle.event_log.specs.History.{History}
use Rattle.book_lock.specs.declared.unread.Position.{Position}
use Rattle.book_lock.specs.declared.unread.UnreadChanges.{UnreadChanges}
use Rattle.book_lock.specs.Rises.{SharedBook}
use Rattle.book_lock.specs.inner.Rises.{with_book}
use Rattle.book_lock.specs.inner.Unread.{HasPruning}
use Rattle.book_lock.specs.Log.{Log}
use Rattle.book_lock.proofs.Logging.{book_pruned, pruned_own}
use Rattle.book_lock.proofs.HandedIn.{folded_in, manned_none}
use Rattle.book_lock.specs.declared.log_entry.LogEntry.{LogEntry}
use Rattle.book_lock.specs.declared.log_entry.LogEntry.TheVariants.{Pruned}
use Rattle.book_lock.proofs.Durability.{journaled_pruned}
use Rattle.book_lock.proofs.locked.Locked.prune.Goals as goal

pub invariant_of-self-2 : goal.invariant_of-self-2
invariant_of-self-2 g c =
    let h : SharedBook = record { book = c.self.inside.book; opening = c.self.inside.opening; first = c.self.inside.first; admitted = c.self.inside.admitted } in
    let x : ℕ × LogEntry = (c.self.inside.seat.0, Pruned c.args.before) in
    let added : c.push.new.self.0 ≡ c.self.inside.log.0 ++ x ∷ [] = ap (λ (l : Log × ℕ). l.0) c.push.ensures.log in
    let n = folded_in h c.args.before c.prune.new.self g.A.Sharing.counts g.A.Sharing.first g.A.Sharing.channels c.self.inside.seat.0 c.self.inside.log.0 c.push.new.self.0 added
    c.in_ok-prune.ensures.folded c.rules.ensures.sound c.in_ok-prune.ensures.answer c.self.invariant.0 c.self.invariant.1 in
    let then = book_pruned g.A.Sharing.opening c.self.inside.log.0 c.push.new.self.0 c.self.inside.seat.0 c.args.before c.self.inside.book c.prune.new.self c.self.invariant.2 c.in_ok-prune.ensures.answer c.in_ok-prune.ensures.folded added in
    let at : Position = record { next = c.len.result; prunings = c.prunings.result } in
    let has = subst (λ (kept : Option UnreadChanges). IfSome c.with_pruning.result (HasPruning at c.args.before c.prunings-2.result kept)) c.take-kept.ensures.value c.with_pruning.ensures in (
      n.0,
      n.1,
      then,
      ap (λ (l : Log × ℕ). l.1) c.push.ensures.log ∙ c.self.invariant.3,
      c.self.invariant.4,
      manned_none g.A.Sharing.desks g.A.Sharing.stations c.self.inside.log.0 c.push.new.self.0 x c.self.invariant.5 added (refl, refl, refl),
      journaled_pruned g.A.Sharing.opening g.A.Sharing.committed c.self.inside.log.0 c.push.new.self.0 c.self.inside.seat.0 c.args.before c.prunings-2.result c.self.inside.durable c.self.inside.book c.prune.new.self at c.self.inside.unread c.with_pruning.result
          c.self.invariant.6 c.self.invariant.2 then c.len.ensures c.prunings.ensures c.in_ok-prune.ensures.folded c.prunings-2.ensures added has,
    )

pub returns-clause-answer : goal.returns-clause-answer
returns-clause-answer g c = subst (λ (h : SharedBook). prune_answer h.book c.args.before ≡ None) c.self.view_is c.in_ok-prune.ensures.answer

pub returns-clause-folded : goal.returns-clause-folded
returns-clause-folded g c =
    let now : History → SharedBook = λ b. record { book = b; opening = c.self.inside.opening; first = c.self.inside.first; admitted = c.self.inside.admitted } in
    subst (λ (h : SharedBook). now c.prune.new.self ≡ with_book h (pruned c.args.before h.book)) c.self.view_is (ap now c.in_ok-prune.ensures.folded)

pub returns-clause-call : goal.returns-clause-call
returns-clause-call g c = pruned_own g.A.Sharing.opening c.self.inside.log.0 c.self.inside.book c.args.before (Ok tt) c.self.invariant.2 c.in_ok-prune.ensures.answer tt
