use Rattle.std.proofs.Common.{◌≡◌, ◌++◌, ℕ, List, map, sym, ap, subst, ◌∙◌}
use Rattle.std.specs.Arc.{arc_value}
use Rattle.std.specs.List.{AllByRecursion}
use Rattle.event_records.specs.declared.record.Record.{Record}
use Rattle.event_records.specs.inner.Encoding.{encoding}
use Rattle.event_records.specs.inner.Fields.{Fits}
use Rattle.book_recovery.specs.inner.File.{IsRecovered, bodies_of}
use Rattle.book_recovery.proofs.Files.{one}
use Rattle.service_store.specs.inner.Starting.{bodies_in}
use Rattle.service_store.proofs.Behind.{recovered_behind}
use Rattle.service_store.proofs.Booked.{bound, caught_up_since, plan_where, records_bound}
use Rattle.service_store.proofs.Faults.{write_failure}
use Rattle.service_store.proofs.start.resume.Goals as goal

pub returns-in-Err-clause-failure : goal.returns-in-Err-clause-failure
returns-in-Err-clause-failure g c =
    write_failure (bodies_of c.args.rows.now) c.in-Err.fault c.in-Err.ensures.failure

pub returns-clause-recovered : goal.returns-clause-recovered
returns-clause-recovered g c clean whole =
    let rows = bodies_of c.args.rows.now in
    let rs = c.in_ok-caught_up.caught_up.records.items in
    let same : c.as_slice-records_kept.result.now ≡ rs = c.as_slice-records_kept.ensures.value in
    let last = bodies_in (g.S.Store.view c.keep_records.new.events.store).trees in
    let added : last ≡ rows ++ map encoding rs =
    c.in-Ok.ensures.added clean
    ∙ (ap (λ l. l ++ map encoding c.as_slice-records_kept.result.now) whole ∙ ap (λ (l : List Record). rows ++ map encoding l) same) in
    subst (λ (l : List (List ℕ)). IsRecovered l c.catch_up.new.book) (sym added)
    (recovered_behind rows c.in_ok-book.field-0.book c.catch_up.new.book rs c.in_ok-book.ensures.recovered c.in_ok-caught_up.ensures.booked
    (subst (AllByRecursion Fits) same c.in-Ok.ensures.fits))

pub returns-clause-caught_up : goal.returns-clause-caught_up
returns-clause-caught_up g c h r =
    caught_up_since c.args.on_flights (arc_value c.args.request.plan) c.args.request.now c.later-now.result h c.in_ok-book.field-0.book c.catch_up.new.book
    c.in_ok-caught_up.caught_up.kept_plan c.in_ok-caught_up.caught_up.interrupted c.in_ok-caught_up.caught_up.failed.items c.later-now.ensures
    (one (bodies_of c.args.rows.now) h c.in_ok-book.field-0.book r c.in_ok-book.ensures.recovered) c.in_ok-caught_up.ensures.caught_up

pub returns-clause-bound : goal.returns-clause-bound
returns-clause-bound g c h r =
    ap bound c.in_ok-caught_up.ensures.booked.history
    ∙ (records_bound c.in_ok-book.field-0.book c.in_ok-caught_up.caught_up.records.items
    ∙ ap bound (sym (one (bodies_of c.args.rows.now) h c.in_ok-book.field-0.book r c.in_ok-book.ensures.recovered)))

pub returns-clause-plan : goal.returns-clause-plan
returns-clause-plan g c =
    plan_where c.args.on_flights (arc_value c.args.request.plan) c.later-now.result c.in_ok-book.field-0.book c.catch_up.new.book c.in_ok-caught_up.caught_up.kept_plan
    c.in_ok-caught_up.caught_up.interrupted c.in_ok-caught_up.caught_up.failed.items c.in_ok-caught_up.ensures.caught_up
