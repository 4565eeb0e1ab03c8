use Rattle.std.proofs.Common.{◌≡◌, ◌≢◌, ◌<◌, List, length, sym, ◌∙◌, ap, subst}
use Rattle.std.specs.Prelude.{All}
use Rattle.std.specs.List.{HoldsAt, list_any}
use Rattle.event_log.specs.Answers.{brought_before}
use Rattle.event_log.specs.History.{Snapshot, Remembered}
use Rattle.event_log.proofs.Searching.{brought-nowhere, brought-there}
use Rattle.event_log.proofs.opening.Snapshot.brought.Goals as goal

pub returns-in-Some : goal.returns-in-Some
returns-in-Some c =
    let rs : List Remembered = c.self.inside.remembered.items in
    let is : rs ≡ c.args.self.now.remembered = ap (λ (o : Snapshot). o.remembered) c.self.view_is in
    c.brought.ensures
    ∙ (ap (brought_before c.args.place c.args.raw.now) c.index.ensures
    ∙ (brought-there c.args.place rs c.args.raw.now c.in-Some.k c.index.result.now c.self.invariant
    (subst (λ (rs : List Remembered). c.in-Some.k < length rs) c.deref.ensures.value c.in-Some.ensures.inside)
    (subst (λ rs. HoldsAt (λ r. r.place ≡ c.args.place) rs c.in-Some.k) c.deref.ensures.value c.in-Some.ensures.found)
    ∙ ap (list_any (brought_before c.args.place c.args.raw.now)) is))

pub returns-in-None : goal.returns-in-None
returns-in-None c =
    let rs : List Remembered = c.self.inside.remembered.items in
    let is : rs ≡ c.args.self.now.remembered = ap (λ (o : Snapshot). o.remembered) c.self.view_is in
    sym (brought-nowhere c.args.place rs c.args.raw.now (subst (All (λ r. r.place ≢ c.args.place)) c.deref.ensures.value c.in-None.ensures.missing))
    ∙ ap (list_any (brought_before c.args.place c.args.raw.now)) is
