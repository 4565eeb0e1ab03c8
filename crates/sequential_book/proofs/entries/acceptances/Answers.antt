use Rattle.std.proofs.Common.{rules, tests, ◌∙◌}
use Rattle.std.proofs.lemmas.Iterator.{YieldsList-from_slice}
use Rattle.std.proofs.lemmas.Iterator.Consumers.{YieldsList-from_filter, count_from_yields_List}
use Rattle.std.proofs.lemmas.List.Sums.{length-filter}
use Rattle.sequential_book.specs.inner.Reading.{is_acceptance}
use Rattle.sequential_book.proofs.entries.acceptances.Goals as goal

pub returns : goal.returns
returns c =
    count_from_yields_List _ c.count.result c.count.ensures.ran
    (YieldsList-from_filter _ is_acceptance (YieldsList-from_slice c.args.entries.now cc) c.filter.ensures.closure (λ x r q k. search (rules, tests)))
    ∙ length-filter is_acceptance c.args.entries.now
