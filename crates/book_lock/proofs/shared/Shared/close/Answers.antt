use Rattle.std.proofs.Common.{List, ap, length, subst, sym, ◌∙◌}
use Rattle.book_lock.specs.Rises.{AddsUp}
use Rattle.book_lock.specs.Shares.{DeskView, StationView}
use Rattle.book_lock.proofs.shared.Shared.close.Goals as goal

pub returns-then-add_up-clause-closed : goal.returns-then-add_up-clause-closed
returns-then-add_up-clause-closed g c =
    let up = c.add_up.ensures.0 c.if-add_up.true in
    c.close.ensures.closed
    (subst (λ (stations : List StationView). AddsUp c.into_inner-locked.result c.args.desks.items stations) c.deref-2.ensures.value
    (subst (λ (desks : List DeskView). AddsUp c.into_inner-locked.result desks c.deref-2.result.now) c.deref.ensures.value up))

pub returns-clause-whole : goal.returns-clause-whole
returns-clause-whole g c = λ all.
    let desks = ap length (sym c.deref.ensures.value) ∙ (c.deref.ensures.len ∙ all.0) in
    let stations = ap length (sym c.deref-2.ensures.value) ∙ (c.deref-2.ensures.len ∙ all.1) in
    let up = c.compared-locked.ensures.whole (desks, stations) in
    let true_then = c.add_up.ensures.1
    (subst (λ (stations : List StationView). AddsUp c.into_inner-locked.result c.deref.result.now stations) (sym c.deref-2.ensures.value)
    (subst (λ (desks : List DeskView). AddsUp c.into_inner-locked.result desks c.args.stations.items) (sym c.deref.ensures.value) up)) in
    let false_now = c.if-add_up.false in
    absurd cc
