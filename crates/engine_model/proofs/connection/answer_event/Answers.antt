use Rattle.std.proofs.Common.{[], ◌∷◌, refl, sym, subst}
use Rattle.mllp_frame.specs.Event.{broken}
use Rattle.mllp_frame.specs.inner.Event.{event_of}
use Rattle.mllp_frame.specs.declared.FrameEvent.{FrameEvent}
use Rattle.engine_model.specs.inner.Handling.{Handles, HandlesFront}
use Rattle.engine_model.proofs.Handled.{handles-none, on_err_one}
use Rattle.engine_model.proofs.connection.answer_event.Goals as goal

pub returns-in-Broken-clause-ok : goal.returns-in-Broken-clause-ok
returns-in-Broken-clause-ok g c =
    subst (λ (e : FrameEvent). Handles c.args.line.now.conn c.args.line.now.channel c.args.now (event_of e ∷ []) c.args.book.now c.args.book.now c.args.words.now c.args.words.now) (sym c.in-Broken.is)
    (handles-none c.args.line.now.conn c.args.line.now.channel c.args.now (broken c.in-Broken.field-0) c.args.book.now c.args.words.now refl)

pub returns-in-Block-clause-err : goal.returns-in-Block-clause-err
returns-in-Block-clause-err g c =
    on_err_one c.answer_text.result
    (λ does. subst (λ (e : FrameEvent). HandlesFront c.args.line.now.conn c.args.line.now.channel c.args.now (event_of e ∷ []) c.args.book.now c.answer_text.new.book c.args.words.now c.answer_text.new.words) (sym c.in-Block.is) does)
    c.answer_text.ensures.err
