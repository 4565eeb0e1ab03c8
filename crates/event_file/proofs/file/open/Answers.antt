use Rattle.std.proofs.Common.{arith, rules, ap, subst, ◌∙◌}
use Rattle.sqlite_trees.specs.Objects.{version_rows}
use Rattle.event_file.specs.Found.{IsOfFormat}
use Rattle.sqlite_trees.specs.View.{IsClean}
use Rattle.sqlite_store.specs.FileStore.{view}
use Rattle.event_file.proofs.FoundLemmas.{honest, held}
use Rattle.event_file.proofs.file.open.Goals as goal

pub returns-in-Ok-open-clause-held : goal.returns-in-Ok-open-clause-held
returns-in-Ok-open-clause-held g c clean =
    let was : IsClean (view c.in-Ok.store) = omega (arith, clean, c.in-Ok-open.ensures.clean) in
    let is_clean = honest _ was in
    let opened = c.in-Ok.ensures in
    held c.args.files c.in-Ok.store _ is_clean (opened.found is_clean) opened.ready.unaltered opened.schema (opened.kept is_clean).size (subst IsOfFormat opened.ready.clean (c.version-format.ensures was (opened.ready.is_open was) ∙ ap version_rows (search rules))) (c.in-Ok-open.ensures.exact clean)
