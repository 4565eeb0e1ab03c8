use Rattle.std.specs.Prelude.{IsTrue}
use Rattle.std.proofs.Common.{◌≡◌, true, false, refl, ap, ◌∙◌, subst}
use Rattle.judge_core.specs.Judging.{Judgement, is_bookable}
use Rattle.mllp_frame.specs.Framing.{IsBlockData}
use Rattle.conn_core.specs.inner.Replies.{told_by}
use Rattle.engine_model.proofs.Handled.{handles-cut, handles-left, handles-message, is_booked, kept-on, on_err_always, plan-kept}
use Rattle.engine_model.proofs.connection.answer_message.Goals as goal

pub returns-in_err-reserve-clause-err : goal.returns-in_err-reserve-clause-err
returns-in_err-reserve-clause-err g c =
    on_err_always c.from_residual.result
    (handles-left c.args.line.now.conn c.args.message.now.channel c.args.now _ c.args.book.now c.args.book.now c.args.words.now (record c.args.words.now { answers = c.reserve.new.self }) refl c.reserve.ensures.items refl)

pub returns-in_err-raw-clause-err : goal.returns-in_err-raw-clause-err
returns-in_err-raw-clause-err g c =
    on_err_always c.from_residual-in_err-raw.result
    (handles-left c.args.line.now.conn c.args.message.now.channel c.args.now _ c.args.book.now c.args.book.now c.args.words.now (record c.args.words.now { answers = c.reserve.new.self }) refl c.reserve.ensures.items refl)

pub returns-clause-ok : goal.returns-clause-ok
returns-clause-ok g c =
    let bookable = subst (λ (j : Judgement). IsTrue (is_bookable j.raw)) c.judged.ensures.value c.judged.ensures.bookable in
    let raw_is = c.raw.ensures.value ∙ ap (λ (j : Judgement). j.raw) c.judged.ensures.value in
    let outcome = c.book_and_reply-booked.result.outcome in
    let whole : c.book_and_reply-booked.result.whole ≡ true = c.if-not-booked.false in
    handles-message c.args.line.now.conn c.args.message.now.channel c.args.now c.args.message.now.raw (told_by outcome) c.args.book.now c.book_and_reply-booked.new.book c.args.words.now
    (record { answers = c.push_reserved.new.self; replies = c.book_and_reply-booked.new.replies }) bookable
    (is_booked c.args.line.now.conn c.args.now c.args.message.now c.args.book.now c.book_and_reply-booked.new.book c.args.words.now.answers.items c.push_reserved.new.self.items c.requires.same_plan
    (subst IsBlockData raw_is c.raw.ensures.fits) outcome c.book_and_reply-booked.ensures.does.receipt c.book_and_reply-booked.ensures.does.booked c.book_and_reply-booked.ensures.does.unbooked
    c.book_and_reply-booked.ensures.does.told c.book_and_reply-booked.ensures.does.refused
    (kept-on c.args.words.now.answers.items c.reserve.new.self.items c.push_reserved.new.self.items (record { raw = c.in_ok-raw.raw; outcome = c.told_by.result; moment = c.args.now }) c.args.message.now.raw (told_by outcome) c.args.now
    c.reserve.ensures.items c.push_reserved.ensures.items (c.in_ok-raw.ensures ∙ raw_is) c.told_by.ensures refl))
    c.requires.counted (c.book_and_reply-booked.ensures.does.replies.bytes whole)

pub returns-then-not-booked-clause-err : goal.returns-then-not-booked-clause-err
returns-then-not-booked-clause-err g c =
    let bookable = subst (λ (j : Judgement). IsTrue (is_bookable j.raw)) c.judged.ensures.value c.judged.ensures.bookable in
    let raw_is = c.raw.ensures.value ∙ ap (λ (j : Judgement). j.raw) c.judged.ensures.value in
    let outcome = c.book_and_reply-booked.result.outcome in
    let part : c.book_and_reply-booked.result.whole ≡ false = c.if-not-booked.true in
    let some = c.book_and_reply-booked.ensures.does.replies.in_part part in
    handles-cut c.args.line.now.conn c.args.message.now.channel c.args.now c.args.message.now.raw (told_by outcome) c.args.book.now c.book_and_reply-booked.new.book c.args.words.now
    (record { answers = c.push_reserved.new.self; replies = c.book_and_reply-booked.new.replies }) bookable
    (is_booked c.args.line.now.conn c.args.now c.args.message.now c.args.book.now c.book_and_reply-booked.new.book c.args.words.now.answers.items c.push_reserved.new.self.items c.requires.same_plan
    (subst IsBlockData raw_is c.raw.ensures.fits) outcome c.book_and_reply-booked.ensures.does.receipt c.book_and_reply-booked.ensures.does.booked c.book_and_reply-booked.ensures.does.unbooked
    c.book_and_reply-booked.ensures.does.told c.book_and_reply-booked.ensures.does.refused
    (kept-on c.args.words.now.answers.items c.reserve.new.self.items c.push_reserved.new.self.items (record { raw = c.in_ok-raw.raw; outcome = c.told_by.result; moment = c.args.now }) c.args.message.now.raw (told_by outcome) c.args.now
    c.reserve.ensures.items c.push_reserved.ensures.items (c.in_ok-raw.ensures ∙ raw_is) c.told_by.ensures refl))
    c.requires.counted some.count some.bytes

pub returns-then-not-booked-clause-plan : goal.returns-then-not-booked-clause-plan
returns-then-not-booked-clause-plan g c =
    plan-kept c.args.book.now c.book_and_reply-booked.new.book c.book_and_reply-booked.result.outcome c.book_and_reply-booked.ensures.does.booked c.book_and_reply-booked.ensures.does.unbooked

pub returns-clause-plan : goal.returns-clause-plan
returns-clause-plan g c =
    plan-kept c.args.book.now c.book_and_reply-booked.new.book c.book_and_reply-booked.result.outcome c.book_and_reply-booked.ensures.does.booked c.book_and_reply-booked.ensures.does.unbooked
