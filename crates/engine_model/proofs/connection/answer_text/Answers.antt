use Rattle.std.proofs.Common.{◌≡◌, [], ◌∷◌, refl, sym, ap, ◌∙◌, rules, subst}
use Rattle.std.specs.Prelude.{IfSome}
use Rattle.judge_core.specs.Judging.{Judgement, is_bookable}
use Rattle.mllp_frame.specs.Event.{block}
use Rattle.engine_model.specs.inner.Handling.{Handles, HandlesFront}
use Rattle.engine_model.proofs.Handled.{handles-none, handles-stop, no_message, on_err_always, on_err_one, on_ok_one}
use Rattle.engine_model.proofs.connection.answer_text.Goals as goal

pub returns-in_err-judged-clause-err : goal.returns-in_err-judged-clause-err
returns-in_err-judged-clause-err g c =
    on_err_always c.from_residual.result (handles-stop c.args.line.now.conn c.args.line.now.channel c.args.now _ c.args.book.now c.args.words.now c.args.words.now refl refl)

pub returns-in_default-clause-ok : goal.returns-in_default-clause-ok
returns-in_default-clause-ok g c =
    let raw : c.in_ok-judged.judged.raw ≡ c.args.raw.items = ap (λ (j : Judgement). j.raw) c.in_ok-judged.ensures in
    handles-none c.args.line.now.conn c.args.line.now.channel c.args.now (block c.args.raw.items) c.args.book.now c.args.words.now
    (no_message c.args.raw.items (sym (c.message.ensures.booked ∙ ap is_bookable raw) ∙ search rules))

pub returns-clause-ok : goal.returns-clause-ok
returns-clause-ok g c =
    let is : c.in-Some.message ≡ c.in_ok-judged.judged = subst (λ o. IfSome o (λ m. m ≡ c.in_ok-judged.judged)) c.in-Some.is c.message.ensures.value in
    on_ok_one c.answer_message.result
    (λ does. subst (λ (j : Judgement). Handles c.args.line.now.conn j.channel c.args.now (block j.raw ∷ []) c.args.book.now c.answer_message.new.book c.args.words.now c.answer_message.new.words) (is ∙ c.in_ok-judged.ensures) does)
    c.answer_message.ensures.ok

pub returns-clause-err : goal.returns-clause-err
returns-clause-err g c =
    let is : c.in-Some.message ≡ c.in_ok-judged.judged = subst (λ o. IfSome o (λ m. m ≡ c.in_ok-judged.judged)) c.in-Some.is c.message.ensures.value in
    on_err_one c.answer_message.result
    (λ does. subst (λ (j : Judgement). HandlesFront c.args.line.now.conn j.channel c.args.now (block j.raw ∷ []) c.args.book.now c.answer_message.new.book c.args.words.now c.answer_message.new.words) (is ∙ c.in_ok-judged.ensures) does)
    c.answer_message.ensures.err
