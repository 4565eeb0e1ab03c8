use Rattle.std.proofs.Common.{◌≡◌, ℕ, List, subst}
use Rattle.std.specs.Prelude.{IfOk}
use Rattle.conn_core.specs.inner.Outcomes.{AppendsReplies, IsOutcome, dues_in, is_whole}
use Rattle.conn_core.proofs.Answering.{may_become}
use Rattle.conn_core.proofs.block_outcome.answer_block.Goals as goal

pub returns-in-Ok-clause-kind : goal.returns-in-Ok-clause-kind
returns-in-Ok-clause-kind g c =
    let of_text : c.in-Ok.judged.raw ≡ c.args.raw.items = subst (λ r. IfOk r (λ j. j.raw ≡ c.args.raw.items)) c.in-Ok.is c.judged.ensures.of_text in
    let for_channel : c.in-Ok.judged.channel ≡ c.args.line.now.channel = subst (λ r. IfOk r (λ j. j.channel ≡ c.args.line.now.channel)) c.in-Ok.is c.judged.ensures.for_channel in
    let here = subst (λ (raw : List ℕ). IsOutcome c.args.line.now.conn c.in-Ok.judged.channel raw c.answer_judged.result) of_text c.answer_judged.ensures.kind in
    subst (λ (channel : ℕ). IsOutcome c.args.line.now.conn channel c.args.raw.items c.answer_judged.result) for_channel here

pub returns-in-Ok-clause-booked : goal.returns-in-Ok-clause-booked
returns-in-Ok-clause-booked g c = g.met.B.Booking.after _ _ _ _ _ c.judged.ensures.unbooked c.answer_judged.ensures.booked

pub returns-in-Ok-clause-told : goal.returns-in-Ok-clause-told
returns-in-Ok-clause-told g c =
    may_become (g.B.Booking.judges c.args.book.now) (g.B.Booking.outcomes c.args.book.now) (g.B.Booking.outcomes c.judged.new.self) c.in-Ok.judged c.answer_judged.result
    (subst (λ r. IfOk r (λ j. g.B.Booking.judges c.args.book.now j.plan)) c.in-Ok.is c.judged.ensures.by_plan)
    (subst (λ r. IfOk r (λ j. j.channel ≡ c.args.line.now.channel)) c.in-Ok.is c.judged.ensures.for_channel)
    (subst (λ r. IfOk r (λ j. j.raw ≡ c.args.raw.items)) c.in-Ok.is c.judged.ensures.of_text)
    (λ outcome may. g.met.B.Booking.same_outcomes _ _ _ _ c.judged.ensures.unbooked may)
    c.answer_judged.ensures.told

pub returns-in-Ok-clause-replies : goal.returns-in-Ok-clause-replies
returns-in-Ok-clause-replies g c =
    let of_text : c.in-Ok.judged.raw ≡ c.args.raw.items = subst (λ r. IfOk r (λ j. j.raw ≡ c.args.raw.items)) c.in-Ok.is c.judged.ensures.of_text in
    subst (λ (raw : List ℕ). AppendsReplies c.args.line.now.conn (dues_in raw c.args.now c.answer_judged.result) (is_whole c.answer_judged.result) c.args.replies.now c.answer_judged.new.replies)
    of_text c.answer_judged.ensures.replies

pub returns-in-Ok-clause-few : goal.returns-in-Ok-clause-few
returns-in-Ok-clause-few g c = c.answer_judged.ensures.few
