use Rattle.std.proofs.Common.{◌≡◌, ◌+◌, ◌-◌, ◌∙◌, ap, arith, find, sym, take}
use Rattle.mllp_frame.specs.inner.Event.{event_of}
use Rattle.mllp_frame.specs.inner.Framed.{Framed}
use Rattle.answer_words.specs.inner.Words.{is_answer_to, messages_in}
use Rattle.answer_words.proofs.Finding.{found_here, found_later}
use Rattle.answer_words.proofs.words.first_answer.Goals as goal

pub returns-in-Some-2 : goal.returns-in-Some-2
returns-in-Some-2 c =
    sym (found_here (is_answer_to c.args.control_id.now) c.loop.counter c.loop.framer.to_come (event_of c.in-Some.event) c.in-Some-2.answer
    c.loop-test.true (sym c.in-Some.ensures.event) (sym c.in_ok-answer.ensures ∙ c.in-Some-2.is))
    ∙ c.loop.invariant

pub loop-preserved : goal.loop-preserved
loop-preserved c =
    ap (λ (f : Framed). find (is_answer_to c.args.control_id.now) (messages_in (take (9 - (c.loop.counter + 1)) f.to_come))) c.next.ensures.rest
    ∙ (found_later (is_answer_to c.args.control_id.now) c.loop.counter c.loop.framer.to_come (event_of c.in-Some.event)
    c.loop-test.true (sym c.in-Some.ensures.event) (sym c.in_ok-answer.ensures ∙ c.in_default-2.is)
    ∙ c.loop.invariant)

pub returns : goal.returns
returns c =
    let over : 9 - c.loop.counter ≡ 0 = omega (arith, c.loop-test.false) in
    sym (ap (λ k. find (is_answer_to c.args.control_id.now) (messages_in (take k c.loop.framer.to_come))) over)
    ∙ c.loop.invariant
