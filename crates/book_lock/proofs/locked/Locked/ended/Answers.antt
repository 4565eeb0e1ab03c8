use Rattle.std.proofs.Common.{length, ap, ◌∙◌}
use Rattle.stat_count.specs.Statistics.{Statistics}
use Rattle.stat_count.specs.Sums.{settlements}
use Rattle.event_log.specs.Counting.{counted}
use Rattle.book_lock.specs.Rises.{SharedBook, settled, settlements_rise}
use Rattle.book_lock.proofs.Following.{settled-is, counted_destinations, rise_fits, rise_is}
use Rattle.book_lock.specs.inner.Counts.{count_in, is_settlement}
use Rattle.book_lock.proofs.locked.Locked.ended.Goals as goal

pub settlements-requires : goal.settlements-requires
settlements-requires g c = ap (λ (w : Statistics). length w.destinations) c.counts.ensures ∙ counted_destinations c.self.inside.book

pub settlements-requires-2 : goal.settlements-requires-2
settlements-requires-2 g c = c.self.invariant.0.all_destinations

pub overflow_sub-result : goal.overflow_sub-result
overflow_sub-result g c =
    rise_fits (settled c.self.inside.book) (settlements c.self.inside.opening) (count_in is_settlement c.self.inside.log.0) c.settlements.result c.settlements-2.result (settlements (counted c.self.inside.book))
    (settled-is c.self.inside.book) c.self.invariant.1.settlements_are (c.settlements.ensures ∙ ap settlements c.counts.ensures) c.settlements-2.ensures

pub returns : goal.returns
returns g c =
    rise_is (settled c.self.inside.book) (settlements c.self.inside.opening) c.settlements.result c.settlements-2.result (settlements (counted c.self.inside.book))
    (settled-is c.self.inside.book) (c.settlements.ensures ∙ ap settlements c.counts.ensures) c.settlements-2.ensures
    ∙ ap (λ (h : SharedBook). settlements_rise h) c.self.view_is
