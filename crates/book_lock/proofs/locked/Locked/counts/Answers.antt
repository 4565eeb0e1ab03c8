use Rattle.std.proofs.Common.{◌≡◌, ap, sym, ◌∙◌}
use Rattle.stat_count.specs.Sums.{arrivals}
use Rattle.event_log.specs.Counting.{counted}
use Rattle.book_lock.specs.Rises.{SharedBook, arrived}
use Rattle.book_lock.proofs.Following.{arrived-is, shown}
use Rattle.book_lock.specs.inner.Counts.{count_in, is_arrival}
use Rattle.book_lock.proofs.locked.Locked.counts.Goals as goal

pub returns-clause-counts : goal.returns-clause-counts
returns-clause-counts g c =
    let b : c.self.inside.book ≡ c.args.self.now.book = ap (λ (h : SharedBook). h.book) c.self.view_is in
    c.counts.ensures ∙ ap counted b

pub returns-clause-shown : goal.returns-clause-shown
returns-clause-shown g c =
    shown (arrivals c.self.inside.opening) (arrivals g.A.Sharing.counts) (arrived c.self.inside.book) (arrivals c.counts.result.now) c.args.desk.now.made (count_in is_arrival c.self.inside.log.0)
    (ap arrivals c.self.invariant.0.opening) (arrived-is c.self.inside.book ∙ ap arrivals (sym c.counts.ensures)) c.self.invariant.1.arrivals_are c.audit.ensures.bound
