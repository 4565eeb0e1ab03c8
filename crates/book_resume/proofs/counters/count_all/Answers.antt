use Rattle.std.proofs.Common.{◌≡◌, ℕ, List, ◌∙◌, ap, arith}
use Rattle.std.specs.Prelude.{map}
use Rattle.std.specs.List.{range_with_len}
use Rattle.stat_count.specs.declared.DestinationCounts.{DestinationCounts}
use Rattle.stat_count.specs.Statistics.{destination_at}
use Rattle.event_log.specs.History.{Remembered}
use Rattle.book_resume.specs.inner.Counters.{with_remembered}
use Rattle.book_resume.proofs.CountedMore.{destinations-more}
use Rattle.book_resume.proofs.counters.count_all.Goals as goal

pub loop-d-preserved : goal.loop-d-preserved
loop-d-preserved c =
    let rs = c.args.opening.now.remembered in
    let f : ℕ → DestinationCounts = λ d. with_remembered rs d (destination_at d c.args.opening.now.forgotten) in
    let one : c.count_at.result ≡ f c.loop-d.d
    = c.count_at.ensures
    ∙ (ap (λ (arrivals : List Remembered). with_remembered arrivals c.loop-d.d c.destination-before.result) c.remembered.ensures.value
    ∙ ap (with_remembered rs c.loop-d.d) (c.destination-before.ensures.value ∙ ap (destination_at c.loop-d.d) c.forgotten.ensures)) in
    destinations-more f c.loop-d.d c.loop-d.counts.items c.count_at.result c.push.new.self.items
    c.loop-d.invariant one c.in_ok-push.ensures.items

pub returns : goal.returns
returns c =
    let f : ℕ → DestinationCounts = λ d. with_remembered c.args.opening.now.remembered d (destination_at d c.args.opening.now.forgotten) in
    let whole : c.loop-d.d ≡ 32 = omega arith in
    c.loop-d.invariant ∙ ap (λ (k : ℕ). map f (range_with_len 0 k)) whole
