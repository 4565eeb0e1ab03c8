use Rattle.std.proofs.Common.{length, sym, ◌∙◌, ap}
use Rattle.std.specs.List.{list_all}
use Rattle.book_resume.specs.declared.fault.ResumeFault.TheVariants.{NotGood}
use Rattle.book_resume.specs.inner.Counters.{counted_with, was_taken}
use Rattle.book_resume.proofs.Recounted.{counted-else, counted-ok, on-ok, taken-else}
use Rattle.book_resume.proofs.counters.recount.Goals as goal

pub returns-then-not-were_taken-clause-refused : goal.returns-then-not-were_taken-clause-refused
returns-then-not-were_taken-clause-refused c = λ is.
    taken-else (counted_with c.args.opening.now) c.channels-channels.result.now c.deref.result.now
    (c.channels-channels.ensures.value ∙ ap (λ s. s.channels) c.forgotten.ensures)
    (c.deref.ensures.value ∙ c.in_ok-destinations.ensures) (sym c.were_taken.ensures ∙ c.if-not-were_taken.true)

pub returns-clause-channels : goal.returns-clause-channels
returns-clause-channels c =
    ap (λ s. length s.channels) (sym c.forgotten.ensures) ∙ (ap length (sym c.channels-channels.ensures.value) ∙ c.channels-channels.ensures.all)

pub returns-clause-destinations : goal.returns-clause-destinations
returns-clause-destinations c =
    ap (λ s. length s.destinations) (sym c.forgotten-2.ensures)
    ∙ (ap length (sym c.destinations-forgotten.ensures.value) ∙ c.destinations-forgotten.ensures.all)

pub returns-clause-counts : goal.returns-clause-counts
returns-clause-counts c =
    counted-ok (counted_with c.args.opening.now) c.channels-channels.result.now c.deref-2.result.now
    (c.channels-channels.ensures.value ∙ ap (λ s. s.channels) c.forgotten.ensures) (c.deref-2.ensures.value ∙ c.in_ok-destinations.ensures)
    NotGood c.ok_or.result c.of.result c.ok_or.ensures.value c.of.ensures.channels c.of.ensures.destinations

pub returns-clause-taken : goal.returns-clause-taken
returns-clause-taken c =
    on-ok c.ok_or.result _
    (ap (list_all was_taken) (sym (c.deref.ensures.value ∙ c.in_ok-destinations.ensures)) ∙ (sym c.were_taken.ensures ∙ c.if-not-were_taken.false))

pub returns-clause-refused : goal.returns-clause-refused
returns-clause-refused c =
    counted-else (counted_with c.args.opening.now) c.channels-channels.result.now c.deref-2.result.now
    (c.channels-channels.ensures.value ∙ ap (λ s. s.channels) c.forgotten.ensures) (c.deref-2.ensures.value ∙ c.in_ok-destinations.ensures)
    NotGood c.ok_or.result c.of.result c.ok_or.ensures.value c.of.ensures.refused
