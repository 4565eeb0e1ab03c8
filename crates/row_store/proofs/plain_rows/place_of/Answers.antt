use Rattle.std.proofs.Common.{rules}
use Rattle.std.proofs.lemmas.List.Sorted.{answers_always}
use Rattle.row_store.proofs.Places.{searched-found, searched-missing}
use Rattle.row_store.proofs.plain_rows.place_of.Goals as goal

pub returns-clause-found : goal.returns-clause-found
returns-clause-found g c =
    let by_number = c.binary_search_by_key.ensures.position (λ row. row.number) (answers_always _ _ _ (λ f a r f' called. search rules)) in
    rw c.ok.ensures.value (searched-found c.args.number c.args.rows.now c.binary_search_by_key.result by_number)

pub returns-clause-missing : goal.returns-clause-missing
returns-clause-missing g c =
    let by_number = c.binary_search_by_key.ensures.position (λ row. row.number) (answers_always _ _ _ (λ f a r f' called. search rules)) in
    rw c.ok.ensures.value (searched-missing c.args.number c.args.rows.now c.binary_search_by_key.result c.requires by_number)
