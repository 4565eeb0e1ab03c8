use Rattle.std.proofs.Common.{◌≡◌, ◌+◌, ◌∙◌, ℕ, [], ap, subst}
use Rattle.event_log.specs.History.{History}
use Rattle.book_lock.specs.Log.{Log}
use Rattle.book_lock.specs.inner.Sound.{IsSoundBook}
use Rattle.book_lock.proofs.Logging.{book_opened}
use Rattle.book_lock.proofs.Following.{opened_now}
use Rattle.book_lock.proofs.HandedIn.{manned_at_first}
use Rattle.book_lock.specs.inner.Counts.{count_in, is_arrival, is_settlement, is_take}
use Rattle.book_lock.proofs.Durability.{durable_at_first}
use Rattle.book_lock.proofs.locked.Locked.new.Goals as goal

pub invariant_of-result : goal.invariant_of-result
invariant_of-result g c =
    let none : c.issue-seat.new.self.0 ≡ [] = ap (λ (l : Log × ℕ). l.0) c.issue-seat.ensures.log ∙ c.requires.log.0 in
    let n = opened_now c.args.book c.counts-opening.result.now c.len-first.result g.A.Sharing.counts g.A.Sharing.first g.A.Sharing.channels
    (count_in is_arrival c.issue-seat.new.self.0) (count_in is_take c.issue-seat.new.self.0) (count_in is_settlement c.issue-seat.new.self.0)
    c.counts-opening.ensures c.len-first.ensures c.requires.counts c.requires.first c.requires.channels
    (ap (count_in is_arrival) none, ap (count_in is_take) none, ap (count_in is_settlement) none) in (
      n.0,
      n.1,
      book_opened g.A.Sharing.opening c.args.book c.issue-seat.new.self.0 c.requires.opening none,
      ap (λ (l : Log × ℕ). l.1) c.issue-seat.ensures.log ∙ ap (λ n. n + 1) c.requires.log.1,
      subst (λ (h : History). IsSoundBook h) c.requires.opening (record { sound = c.rules.ensures.sound; few = c.rules.ensures.few }),
      manned_at_first g.A.Sharing.desks g.A.Sharing.stations c.issue-seat.new.self.0 none,
      durable_at_first g.A.Sharing.opening c.args.book g.A.Sharing.committed c.issue-seat.new.self.0 c.len-first.result c.requires.opening c.len-first.ensures none,
    )

pub returns : goal.returns
returns g c = λ i. record { book = c.args.book; opening = c.counts-opening.ensures i; first = c.len-first.ensures i; admitted = 0 }
