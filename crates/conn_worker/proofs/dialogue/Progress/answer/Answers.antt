use Rattle.std.proofs.Common.{◌≡◌, true, false, [], refl, sym, ap, ◌∙◌, arith}
use Rattle.conn_core.specs.inner.Replies.{RepliesView}
use Rattle.conn_core.specs.inner.Outcomes.{is_whole}
use Rattle.conn_worker.specs.declared.dialogue.Progress.{Progress}
use Rattle.conn_worker.proofs.Growing.{keeps_none}
use Rattle.conn_worker.proofs.Standing.{same_dialogue, block_answered, block_answered_in_part, on_err_always, none_handled}
use Rattle.conn_worker.proofs.dialogue.Progress.answer.Goals as goal

pub returns-in_err-reserve-clause-err : goal.returns-in_err-reserve-clause-err
returns-in_err-reserve-clause-err g c =
    let same : Progress g.row.K.Denot = record c.args.self.now { report = record c.args.self.now.report { receipts = c.reserve.new.self } } in
    on_err_always c.from_residual.result (λ first before text s. none_handled {t = same} (same_dialogue c.args.self.now same s
    (record {
      booked = λ rs h. g.met.B.Booking.after _ _ _ rs [] h (g.met.B.Booking.nothing _);
      known = λ channel raw k. k;
      kept = keeps_none g.K.ReceiptSink.has _ _ c.reserve.ensures.same;
    })
    (record {
      unbooked = refl;
      unreadable = omega arith;
      strays = omega arith;
      breaks = omega arith;
      made = refl;
      bytes = refl;
    })))

pub returns-in_err-outcome-clause-err : goal.returns-in_err-outcome-clause-err
returns-in_err-outcome-clause-err g c =
    let same : Progress g.row.K.Denot = record c.args.self.now { report = record c.args.self.now.report { receipts = c.reserve.new.self }; replies = c.answer_block.new.replies } in
    on_err_always c.from_residual-in_err-outcome.result (λ first before text s. none_handled {t = same} (same_dialogue c.args.self.now same s
    (record {
      booked = λ rs h. g.met.B.Booking.after _ _ _ rs [] h c.in_err-outcome.ensures.unbooked;
      known = λ channel raw k. g.met.B.Booking.still_knows _ _ [] channel raw c.in_err-outcome.ensures.unbooked k;
      kept = keeps_none g.K.ReceiptSink.has _ _ c.reserve.ensures.same;
    })
    (record {
      unbooked = refl;
      unreadable = omega arith;
      strays = omega arith;
      breaks = omega arith;
      made = ap (λ (r : RepliesView). r.made) c.in_err-outcome.ensures.unchanged;
      bytes = ap (λ (r : RepliesView). r.bytes) c.in_err-outcome.ensures.unchanged;
    })))

pub returns-then-whole-clause-ok : goal.returns-then-whole-clause-ok
returns-then-whole-clause-ok g c first before text s =
    let whole : is_whole c.in_ok-outcome.outcome ≡ true = sym c.is_whole-whole.ensures ∙ c.if-whole.true in
    block_answered c.args.raw.items c.args.now c.args.self.now _ s c.in_ok-outcome.outcome c.in_ok-outcome.ensures.kind
    (record {
      booked = λ rs h. g.met.B.Booking.after _ _ _ rs _ h c.in_ok-outcome.ensures.booked;
      known = λ channel raw k. g.met.B.Booking.still_knows _ _ _ channel raw c.in_ok-outcome.ensures.booked k;
      kept = λ rs h. c.count.ensures.receipts rs (c.reserve.ensures.same rs h);
    })
    (record {
      unbooked = c.count.ensures.unbooked;
      unreadable = c.count.ensures.unreadable_ones;
      strays = c.count.ensures.stray_ones;
      breaks = c.count.ensures.broken_ones;
    })
    c.in_ok-outcome.ensures.known
    (c.in_ok-outcome.ensures.replies.made whole) (c.in_ok-outcome.ensures.replies.bytes whole)

pub returns-else-whole-clause-err : goal.returns-else-whole-clause-err
returns-else-whole-clause-err g c first before text s =
    let part : is_whole c.in_ok-outcome.outcome ≡ false = sym c.is_whole-whole.ensures ∙ c.if-whole.false in
    block_answered_in_part c.args.raw.items c.args.now c.args.self.now _ s c.in_ok-outcome.outcome c.in_ok-outcome.ensures.kind
    (record {
      booked = λ rs h. g.met.B.Booking.after _ _ _ rs _ h c.in_ok-outcome.ensures.booked;
      known = λ channel raw k. g.met.B.Booking.still_knows _ _ _ channel raw c.in_ok-outcome.ensures.booked k;
      kept = λ rs h. c.count.ensures.receipts rs (c.reserve.ensures.same rs h);
    })
    (record {
      unbooked = c.count.ensures.unbooked;
      unreadable = c.count.ensures.unreadable_ones;
      strays = c.count.ensures.stray_ones;
      breaks = c.count.ensures.broken_ones;
    })
    c.in_ok-outcome.ensures.known
    part (c.in_ok-outcome.ensures.replies.in_part part)
