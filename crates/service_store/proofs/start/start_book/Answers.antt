use Rattle.std.proofs.Common.{◌≡◌, [], List, rules, arith, sym, ap, subst, ◌∙◌}
use Rattle.std.proofs.lemmas.Bool.Decides.{nat_tests}
use Rattle.std.proofs.lemmas.Grind.{common_steps}
use Rattle.std.proofs.lemmas.List.{nil_from_length}
use Rattle.sqlite_trees.specs.View.{IsClean}
use Rattle.event_store.specs.declared.columns.StoredRecord.{StoredRecord}
use Rattle.event_store.specs.Records.{records_in}
use Rattle.book_recovery.specs.inner.File.{IsRecovered, bodies_of}
use Rattle.service_store.specs.inner.Starting.{bodies_in}
use Rattle.service_store.proofs.Behind.{bodies_read}
use Rattle.service_store.proofs.start.start_book.Goals as goal

pub returns-in-Ok-clause-recovered : goal.returns-in-Ok-clause-recovered
returns-in-Ok-clause-recovered g c read clean =
    let rows = c.args.opened.1.items in
    let old = g.S.Store.view c.args.opened.0.store in
    let was_clean : IsClean old = omega (arith, clean, c.in-Ok.ensures.clean) in
    let none : rows ≡ [] = nil_from_length rows (grind (arith, common_steps, nat_tests)) in
    c.in-Ok.ensures.recovered clean (bodies_read rows (records_in old.trees) (read was_clean) ∙ ap bodies_of none)

pub returns-in-Ok-resume-clause-recovered : goal.returns-in-Ok-resume-clause-recovered
returns-in-Ok-resume-clause-recovered g c read clean =
    let rows = c.args.opened.1.items in
    let old = g.S.Store.view c.args.opened.0.store in
    let was_clean : IsClean old = omega (arith, clean, c.in-Ok-resume.ensures.clean) in
    c.in-Ok-resume.ensures.recovered clean (bodies_read rows (records_in old.trees) (read was_clean) ∙ ap bodies_of (sym c.as_slice.ensures.value))

pub returns-in-Ok-resume-clause-caught_up : goal.returns-in-Ok-resume-clause-caught_up
returns-in-Ok-resume-clause-caught_up g c h r =
    c.in-Ok-resume.ensures.caught_up h (subst (λ (l : List StoredRecord). IsRecovered (bodies_of l) h) (sym c.as_slice.ensures.value) r)

pub returns-in-Ok-resume-clause-bound : goal.returns-in-Ok-resume-clause-bound
returns-in-Ok-resume-clause-bound g c h r =
    c.in-Ok-resume.ensures.bound h (subst (λ (l : List StoredRecord). IsRecovered (bodies_of l) h) (sym c.as_slice.ensures.value) r)
