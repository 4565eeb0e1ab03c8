use Rattle.std.proofs.Common.{◌≡◌, ◌∷◌, [], ◌++◌, List, ℕ, subst, ◌∙◌}
use Rattle.service_store.specs.inner.Starting.{bodies_in}
use Rattle.service_store.proofs.keep.append_record.Goals as goal

pub returns-clause-added : goal.returns-clause-added
returns-clause-added g c clean =
    let first = g.S.Store.view c.args.events.now.store in
    let last = g.S.Store.view c.append.new.events.store in
    subst (λ (body : List ℕ). bodies_in last.trees ≡ bodies_in first.trees ++ body ∷ []) (c.as_slice.ensures.value ∙ c.in_ok-body.ensures.bytes)
    (c.in_ok-append.ensures.added clean)
