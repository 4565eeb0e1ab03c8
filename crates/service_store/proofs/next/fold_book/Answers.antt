use Rattle.std.proofs.Common.{◌≡◌, ◌++◌, [], ◌∷◌, List, ℕ, map, inr, sym, ap, subst, ◌∙◌}
use Rattle.std.specs.List.{AllByRecursion}
use Rattle.event_records.specs.declared.record.Record.{Record}
use Rattle.event_records.specs.inner.Encoding.{encoding}
use Rattle.event_records.specs.inner.Fields.{Fits}
use Rattle.book_recovery.specs.inner.File.{IsRecovered}
use Rattle.service_store.specs.inner.Starting.{bodies_in}
use Rattle.service_store.proofs.Behind.{booked_one, recovered_behind}
use Rattle.service_store.proofs.next.fold_book.Goals as goal

pub returns-in-Ok-keep_records-clause-recovered : goal.returns-in-Ok-keep_records-clause-recovered
returns-in-Ok-keep_records-clause-recovered g c clean was =
    let item = c.in-Ok.item in
    let old = bodies_in (g.S.Store.view c.args.store.store).trees in
    let last = bodies_in (g.S.Store.view c.keep_records.new.events.store).trees in
    let one : c.from_ref.result.now ≡ item ∷ [] = c.from_ref.ensures.value in
    let added : last ≡ old ++ map encoding (item ∷ []) =
    c.in-Ok-keep_records.ensures.added clean ∙ ap (λ (l : List Record). old ++ map encoding l) one in
    subst (λ (l : List (List ℕ)). IsRecovered l c.fold_all.new.book) (sym added)
    (recovered_behind old c.args.book c.fold_all.new.book (item ∷ []) was
    (booked_one c.args.book c.fold_all.new.book item c.in-Ok.ensures.booked)
    (subst (AllByRecursion Fits) one c.in-Ok-keep_records.ensures.fits))

pub returns-in-Ok-keep_records-clause-same : goal.returns-in-Ok-keep_records-clause-same
returns-in-Ok-keep_records-clause-same g c = inr c.in-Ok.ensures.folded
