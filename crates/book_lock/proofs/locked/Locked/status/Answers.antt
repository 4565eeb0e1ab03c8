use Rattle.std.proofs.Common.{◌∙◌, ap}
use Rattle.event_log.specs.Counting.{counted}
use Rattle.book_core.specs.inner.Questions.{first_live}
use Rattle.book_lock.specs.Rises.{SharedBook}
use Rattle.book_lock.proofs.locked.Locked.status.Goals as goal

pub returns-clause-status : goal.returns-clause-status
returns-clause-status g c = record {
  gauge = c.gauge-gauge.ensures;
  counts = c.counts-counts.ensures ∙ ap (λ (h : SharedBook). counted h.book) c.self.view_is;
  fronts = c.fronts-fronts.ensures.fronts;
  first_live = c.first_live-first_live.ensures.first ∙ ap (λ (h : SharedBook). first_live h.book) c.fronts-fronts.ensures.same;
}
