use Rattle.std.proofs.Common.{length, ap, ◌∙◌}
use Rattle.stat_count.specs.Statistics.{Statistics}
use Rattle.stat_count.specs.Sums.{arrivals}
use Rattle.event_log.specs.Counting.{counted}
use Rattle.book_lock.specs.Rises.{SharedBook, arrived, arrivals_rise}
use Rattle.book_lock.proofs.Following.{arrived-is, counted_channels, rise_fits, rise_is}
use Rattle.book_lock.specs.inner.Counts.{count_in, is_arrival}
use Rattle.book_lock.proofs.locked.Locked.came.Goals as goal

pub arrivals-requires : goal.arrivals-requires
arrivals-requires g c = ap (λ (w : Statistics). length w.channels) c.counts.ensures ∙ counted_channels c.self.inside.book

pub arrivals-requires-2 : goal.arrivals-requires-2
arrivals-requires-2 g c = c.self.invariant.0.all_channels

pub overflow_sub-result : goal.overflow_sub-result
overflow_sub-result g c =
    rise_fits (arrived c.self.inside.book) (arrivals c.self.inside.opening) (count_in is_arrival c.self.inside.log.0) c.arrivals.result c.arrivals-2.result (arrivals (counted c.self.inside.book))
    (arrived-is c.self.inside.book) c.self.invariant.1.arrivals_are (c.arrivals.ensures ∙ ap arrivals c.counts.ensures) c.arrivals-2.ensures

pub returns : goal.returns
returns g c =
    rise_is (arrived c.self.inside.book) (arrivals c.self.inside.opening) c.arrivals.result c.arrivals-2.result (arrivals (counted c.self.inside.book))
    (arrived-is c.self.inside.book) (c.arrivals.ensures ∙ ap arrivals c.counts.ensures) c.arrivals-2.ensures
    ∙ ap (λ (h : SharedBook). arrivals_rise h) c.self.view_is
