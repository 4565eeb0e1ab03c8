use Rattle.std.proofs.Common.{length, ap, ◌∙◌}
use Rattle.stat_count.specs.Statistics.{Statistics}
use Rattle.stat_count.specs.Sums.{takes}
use Rattle.event_log.specs.Counting.{counted}
use Rattle.book_lock.specs.Rises.{SharedBook, taken, takes_rise}
use Rattle.book_lock.proofs.Following.{taken-is, counted_destinations, rise_fits, rise_is}
use Rattle.book_lock.specs.inner.Counts.{count_in, is_take}
use Rattle.book_lock.proofs.locked.Locked.begun.Goals as goal

pub takes-requires : goal.takes-requires
takes-requires g c = ap (λ (w : Statistics). length w.destinations) c.counts.ensures ∙ counted_destinations c.self.inside.book

pub takes-requires-2 : goal.takes-requires-2
takes-requires-2 g c = c.self.invariant.0.all_destinations

pub overflow_sub-result : goal.overflow_sub-result
overflow_sub-result g c =
    rise_fits (taken c.self.inside.book) (takes c.self.inside.opening) (count_in is_take c.self.inside.log.0) c.takes.result c.takes-2.result (takes (counted c.self.inside.book))
    (taken-is c.self.inside.book) c.self.invariant.1.takes_are (c.takes.ensures ∙ ap takes c.counts.ensures) c.takes-2.ensures

pub returns : goal.returns
returns g c =
    rise_is (taken c.self.inside.book) (takes c.self.inside.opening) c.takes.result c.takes-2.result (takes (counted c.self.inside.book))
    (taken-is c.self.inside.book) (c.takes.ensures ∙ ap takes c.counts.ensures) c.takes-2.ensures
    ∙ ap (λ (h : SharedBook). takes_rise h) c.self.view_is
