use Rattle.std.proofs.Common.{rules}
use Rattle.std.proofs.lemmas.List.Sorted.{answers_always}
use Rattle.record_list.proofs.Rising.{searched-found, searched-missing}
use Rattle.record_list.proofs.links.Links.search.Goals as goal

pub returns-clause-found : goal.returns-clause-found
returns-clause-found g c =
    let by_number = c.binary_search_by_key.ensures.position (λ node. node.head.number) (answers_always _ _ _ (λ f a r f' called. search rules)) in
    rw c.ok.ensures.value (searched-found c.args.number c.args.self.now.nodes.items c.binary_search_by_key.result by_number)

pub returns-clause-missing : goal.returns-clause-missing
returns-clause-missing g c =
    let by_number = c.binary_search_by_key.ensures.position (λ node. node.head.number) (answers_always _ _ _ (λ f a r f' called. search rules)) in
    rw c.ok.ensures.value (searched-missing c.args.number c.args.self.now.nodes.items c.binary_search_by_key.result c.requires by_number)
