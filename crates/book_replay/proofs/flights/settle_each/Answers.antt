use Rattle.std.proofs.Common.{◌≡◌, ◌+◌, List, sym, ◌∙◌, ap, subst}
use Rattle.event_records.specs.declared.record.Record.{Record}
use Rattle.book_replay.proofs.Runs.{HasSettled, found_or, settles, settles_not}
use Rattle.book_replay.proofs.flights.settle_each.Goals.{then-settle_again+in_ok-push, else-settle_again}
use Rattle.book_replay.proofs.flights.settle_each.Goals as goal

pub loop-index-preserved : goal.loop-index-preserved
loop-index-preserved g c =
    let has = c.loop-index.invariant in
    elim c.if-settle_again.branch [
      | then-settle_again+in_ok-push w ↦
          subst (λ (rs : List Record). HasSettled c.args.book.now c.args.now c.args.tickets.now (c.loop-index.index + 1) rs c.settle_again.new.book)
          (sym (ap (λ v. v.items) w.settled-is ∙ w.in_ok-push.ensures.items))
          (settles c.args.book.now c.args.now c.args.tickets.now c.loop-index.index c.loop-index.settled.items c.loop-index.book c.settle_again.new.book
          _ has (found_or c.args.tickets.now c.loop-index.index _ c.loop-index-test.true) c.settle_again.ensures.history (c.settle_again.ensures.replayed w.if-settle_again.true))
      | else-settle_again w ↦
          subst (λ (rs : List Record). HasSettled c.args.book.now c.args.now c.args.tickets.now (c.loop-index.index + 1) rs c.settle_again.new.book)
          (sym (ap (λ v. v.items) w.settled-is))
          (settles_not c.args.book.now c.args.now c.args.tickets.now c.loop-index.index c.loop-index.settled.items c.loop-index.book c.settle_again.new.book
          _ has (found_or c.args.tickets.now c.loop-index.index _ c.loop-index-test.true) c.settle_again.ensures.history (c.settle_again.ensures.unchanged w.if-settle_again.false))
    ]
