use Rattle.std.proofs.Common.{◌≡◌, ◌++◌, ◌∷◌, [], sym, ◌∙◌, ap}
use Rattle.book_recovery.specs.Interrupting.{failed_in}
use Rattle.book_recovery.proofs.Bodies.{found_at, none_more, one_more_item}
use Rattle.book_recovery.proofs.flights.failed_among.Goals.{in-Some+in_ok-push, in_default}
use Rattle.book_recovery.proofs.flights.failed_among.Goals as goal

pub loop-item-preserved : goal.loop-item-preserved
loop-item-preserved g c =
    let p = failed_in c.args.book.now in
    let found = found_at c.args.records.now c.loop-item.item-index c.item-item.result c.loop-item-test.true c.item-item.is in
    elim c.match-failed_in.branch [
      | in-Some+in_ok-push w ↦
          ap (λ v. v.items) w.failed-is
          ∙ (w.in_ok-push.ensures.items
          ∙ (ap (λ xs. xs ++ w.in-Some.ticket ∷ []) c.loop-item.invariant
          ∙ one_more_item p c.args.records.now c.loop-item.item-index c.item-item.result w.in-Some.ticket found (sym c.failed_in.ensures ∙ w.in-Some.is)))
      | in_default w ↦
          ap (λ v. v.items) w.failed-is
          ∙ (c.loop-item.invariant ∙ none_more p c.args.records.now c.loop-item.item-index c.item-item.result found (sym c.failed_in.ensures ∙ w.in_default.is))
    ]
