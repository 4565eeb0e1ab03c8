use Rattle.std.proofs.Common.{rules}
use Rattle.std.proofs.lemmas.List.Sorted.{answers_always}
use Rattle.event_log.proofs.Searching.{searched-found, searched-missing}
use Rattle.event_log.proofs.opening.index_of.Goals as goal

pub returns-clause-found : goal.returns-clause-found
returns-clause-found c =
    let by_place = c.binary_search_by_key.ensures.position (λ r. r.place) (answers_always _ _ _ (λ f a r f' called. search rules)) in
    rw c.ok.ensures.value (searched-found c.args.place c.args.remembered.now c.binary_search_by_key.result by_place)

pub returns-clause-missing : goal.returns-clause-missing
returns-clause-missing c =
    let by_place = c.binary_search_by_key.ensures.position (λ r. r.place) (answers_always _ _ _ (λ f a r f' called. search rules)) in
    rw c.ok.ensures.value (searched-missing c.args.place c.args.remembered.now c.binary_search_by_key.result c.requires by_place)
