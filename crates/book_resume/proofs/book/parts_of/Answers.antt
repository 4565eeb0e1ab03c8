use Rattle.std.proofs.Common.{rules, ◌≡◌, ◌<◌, ◌≤◌, List, length, sym, ◌∙◌, ap, subst, arith}
use Rattle.std.specs.Prelude.{All, map}
use Rattle.std.specs.List.{filter_map}
use Rattle.std.specs.List.Sorted.{IsStrictlyIncreasing}
use Rattle.plan_text.specs.Entries.{IsPlan, PlanEntry}
use Rattle.event_log.specs.History.{Remembered}
use Rattle.event_log.specs.inner.History.{number_of}
use Rattle.book_resume.specs.inner.Resuming.{IsMessage}
use Rattle.book_resume.specs.inner.Keys.{AreApart}
use Rattle.book_resume.specs.inner.Owing.{remembered_owed}
use Rattle.book_resume.specs.inner.Rows.{AreRowsOf}
use Rattle.book_resume.proofs.OrderedBegun.{below-ordered, few-ordered, ordered-resumable, owed-counted, resumable-statistics, rise-ordered}
use Rattle.book_resume.proofs.book.parts_of.Goals as goal

pub add_arrivals-requires-clause-rise : goal.add_arrivals-requires-clause-rise
add_arrivals-requires-clause-rise g c =
    subst (λ (rs : List Remembered). IsStrictlyIncreasing (filter_map number_of rs)) (sym c.remembered-arrivals.ensures.value)
    (rise-ordered c.args.opening.now c.requires.ordered)

pub add_arrivals-requires-clause-within : goal.add_arrivals-requires-clause-within
add_arrivals-requires-clause-within g c =
    subst (λ (rs : List Remembered). All (λ n. n < 1001000000) (filter_map number_of rs)) (sym c.remembered-arrivals.ensures.value)
    (below-ordered c.args.opening.now c.requires.ordered)

pub recount-requires-clause-few : goal.recount-requires-clause-few
recount-requires-clause-few g c =
    few-ordered c.args.opening.now c.requires.ordered
    (subst (λ (rs : List Remembered). IsStrictlyIncreasing (map (λ r. r.place) rs)) c.remembered-arrivals.ensures.value c.remembered-arrivals.ensures.places)

pub returns-in_err-counts-clause-refused : goal.returns-in_err-counts-clause-refused
returns-in_err-counts-clause-refused g c = λ is may.
    c.in_err-counts.ensures.refused (search (rules, c.from_residual-in_err-counts.ensures)) (resumable-statistics c.args.opening.now may)

pub owed_of-owed-requires : goal.owed_of-owed-requires
owed_of-owed-requires g c =
    let value = c.remembered-arrivals.ensures.value in
    subst (λ (rs : List Remembered). length rs ≤ 1001000000) (sym value)
    (few-ordered c.args.opening.now c.requires.ordered
    (subst (λ (rs : List Remembered). IsStrictlyIncreasing (map (λ r. r.place) rs)) value c.remembered-arrivals.ensures.places))

pub overflow_cast-owed : goal.overflow_cast-owed
overflow_cast-owed g c =
    let o = c.args.opening.now in
    let same : c.owed_of-owed.result ≡ remembered_owed o.plan o.remembered
    = c.owed_of-owed.ensures
    ∙ (ap (λ (p : PlanEntry). remembered_owed p c.remembered-arrivals.result.now) (c.deref-2.ensures ∙ c.plan-2.ensures)
    ∙ ap (remembered_owed o.plan) c.remembered-arrivals.ensures.value) in
    let room = c.requires.ordered.room in
    let few = c.requires.ordered.bounds.events_few in
    omega (arith, same, room, few)

pub returns-clause-resumable : goal.returns-clause-resumable
returns-clause-resumable g c =
    let value = c.remembered-arrivals.ensures.value in
    ordered-resumable c.args.opening.now c.requires.ordered (subst IsPlan (c.deref.ensures ∙ c.plan.ensures) c.rules.ensures)
    (subst (λ (rs : List Remembered). IsStrictlyIncreasing (map (λ r. r.place) rs)) value c.remembered-arrivals.ensures.places)
    c.recount.ensures.channels c.recount.ensures.destinations
    (subst (All (λ (r : Remembered). IsMessage r.raw)) value c.in_ok-add_arrivals.ensures.messages)
    (subst AreApart value c.in_ok-add_arrivals.ensures.apart) c.in_ok-counts.ensures.taken

pub returns-clause-owed : goal.returns-clause-owed
returns-clause-owed g c =
    owed-counted c.args.opening.now c.requires.ordered c.owed_of-owed.result c.deref-2.result.now c.remembered-arrivals.result.now
    c.owed_of-owed.ensures (c.deref-2.ensures ∙ c.plan-2.ensures) c.remembered-arrivals.ensures.value

pub returns-clause-rows : goal.returns-clause-rows
returns-clause-rows g c =
    subst (λ (rs : List Remembered). AreRowsOf rs (g.S.RowStore.rows c.add_arrivals.new.rows)) c.remembered-arrivals.ensures.value c.in_ok-add_arrivals.ensures.rows
