use Rattle.std.proofs.Common.{arith, rules, map, ap, ◌∙◌}
use Rattle.sqlite_trees.specs.View.{IsClean}
use Rattle.sqlite_store.specs.FileStore.{view}
use Rattle.event_store.specs.Records.{record_in}
use Rattle.event_file.proofs.FoundLemmas.{honest}
use Rattle.event_file.proofs.file.create.Goals as goal

pub returns-in-Ok-open-clause-empty : goal.returns-in-Ok-open-clause-empty
returns-in-Ok-open-clause-empty g c clean =
    let was : IsClean (view c.in-Ok.store) = omega (arith, clean, c.in-Ok-open.ensures.clean) in
    c.in-Ok-open.ensures.now clean ∙ ap (map record_in) (c.in-Ok.ensures.empty (honest _ was) 0 (search rules))
