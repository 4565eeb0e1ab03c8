use Rattle.std.proofs.Common.{length, sym, subst}
use Rattle.std.specs.Arc.{arc_value}
use Rattle.event_log.specs.History.{History}
use Rattle.event_log.specs.inner.History.{history_of}
use Rattle.event_log.specs.Legal.{MayFollow}
use Rattle.sequential_book.specs.inner.Reading.{IsJudgeable}
use Rattle.sequential_book.proofs.Following.{plain-followed_by}
use Rattle.sequential_book.proofs.engine.SequentialBook.book.Goals as goal

pub invariant_of-self-2 : goal.invariant_of-self-2
invariant_of-self-2 c =
    let h : History = history_of (arc_value c.self.inside.plan) c.self.inside.events_max c.self.inside.entries.items in
    rw c.in_ok-push.ensures.items (
    plain-followed_by h c.self.invariant c.args.entry (subst (λ (g : History). MayFollow g c.args.entry) (sym c.self.view_is) c.requires.may_follow)
    (subst (λ (g : History). IsJudgeable (length g.opening.plan.channels) c.args.entry) (sym c.self.view_is) c.requires.judgeable)
    )
