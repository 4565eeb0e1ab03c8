use Rattle.std.proofs.Common.{◌≡◌, ℕ, ◌++◌, ◌∷◌, [], Option, sym, ◌∙◌, ap}
use Rattle.event_log.specs.declared.entry.Ticket.{Ticket}
use Rattle.event_log.specs.History.{History}
use Rattle.book_replay.specs.inner.Flights.{flight_at}
use Rattle.book_replay.proofs.Runs.{none_found, one_found}
use Rattle.book_replay.proofs.flights.flights.Goals.{in-Some+in_ok-push, in_default}
use Rattle.book_replay.proofs.flights.flights.Goals as goal

pub loop-d-preserved : goal.loop-d-preserved
loop-d-preserved g c =
    let p : ℕ → Option Ticket = flight_at c.args.book.now in
    let same = c.loop-d.invariant.unchanged in
    let at = ap (λ (h : History). flight_at h c.loop-d.d) (sym same) ∙ sym c.flight_at.ensures.flight in
    record {
      found = elim c.match-flight_at.branch [
        | in-Some+in_ok-push w ↦
            ap (λ v. v.items) w.found-is
            ∙ (w.in_ok-push.ensures.items
            ∙ (ap (λ xs. xs ++ w.in-Some.ticket ∷ []) c.loop-d.invariant.found ∙ one_found p c.loop-d.d w.in-Some.ticket (at ∙ w.in-Some.is)))
        | in_default w ↦ ap (λ v. v.items) w.found-is ∙ (c.loop-d.invariant.found ∙ none_found p c.loop-d.d (at ∙ w.in_default.is))
      ];
      unchanged = c.flight_at.ensures.unchanged ∙ same;
    }
