use Rattle.std.proofs.Common.{ap, ◌∙◌}
use Rattle.std.specs.Prelude.{count_by}
use Rattle.stat_count.specs.Statistics.{Statistics}
use Rattle.book_recovery.specs.Interrupting.{flying, is_flying}
use Rattle.book_recovery.proofs.flights.flying.Goals as goal

pub returns : goal.returns
unfolding flying
returns g c =
    c.flying_among.ensures ∙ ap (count_by is_flying) (c.destinations.ensures.value ∙ ap (λ (x : Statistics). x.destinations) c.counts.ensures)
