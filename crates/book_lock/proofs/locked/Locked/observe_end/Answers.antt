use Rattle.std.proofs.Common.{ap, sym, ◌∙◌}
use Rattle.event_log.specs.History.{next_place}
use Rattle.book_lock.specs.Log.{after_log}
use Rattle.book_lock.specs.Log.{SeatView}
use Rattle.book_lock.proofs.Planning.{looked}
use Rattle.book_lock.proofs.locked.Locked.observe_end.Goals as goal

pub returns-clause-looks : goal.returns-clause-looks
returns-clause-looks g c =
    looked g.A.Sharing.opening c.args.desk.now.seat c.observe.new.self.seat c.self.inside.log.0 c.self.inside.book c.self.invariant.2 c.observe.ensures.agreed c.observe.ensures.seat

pub returns-clause-until : goal.returns-clause-until
returns-clause-until g c =
    c.len.ensures ∙ (ap next_place c.self.invariant.2.is ∙ sym (ap (λ (s : SeatView). next_place (after_log g.A.Sharing.opening s.seen)) c.observe.ensures.seat))
