use Rattle.std.proofs.Common.{[], ◌∷◌, ◌++◌, cond, sym, ◌∙◌, ap}
use Rattle.std.specs.Prelude.{filter}
use Rattle.std.specs.List.{range_with_len}
use Rattle.std.proofs.lemmas.List.{append-nil}
use Rattle.event_log.specs.History.{is_queued}
use Rattle.sequential_book.proofs.Walks.{filter-more}
use Rattle.sequential_book.proofs.engine.SequentialBook.queue.Goals as goal
use Rattle.sequential_book.proofs.engine.SequentialBook.queue.Goals.{then-branch+in_ok-push, else-branch}

pub loop-number-preserved : goal.loop-number-preserved
loop-number-preserved c =
    let test = is_queued c.args.self.now c.args.d in
    let more = filter-more test c.loop-number.number in
    elim c.if-branch.branch [
      | then-branch+in_ok-push w ↦
          ap (λ q. q.items) w.queue-is
          ∙ (w.in_ok-push.ensures.items
          ∙ (ap (λ ns. ns ++ c.loop-number.number ∷ []) c.loop-number.invariant
          ∙ sym (more ∙ ap (λ b. filter test (range_with_len 0 c.loop-number.number) ++ cond b (c.loop-number.number ∷ []) []) (sym c.in_ok-is_queued.ensures ∙ w.if-branch.true))))
      | else-branch w ↦
          ap (λ q. q.items) w.queue-is
          ∙ (c.loop-number.invariant
          ∙ sym (more
          ∙ (ap (λ b. filter test (range_with_len 0 c.loop-number.number) ++ cond b (c.loop-number.number ∷ []) []) (sym c.in_ok-is_queued.ensures ∙ w.if-branch.false)
          ∙ append-nil (filter test (range_with_len 0 c.loop-number.number)))))
    ]
