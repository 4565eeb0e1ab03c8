use Rattle.std.proofs.Common.{◌≡◌, ◌+◌, ◌∷◌, [], ◌++◌, List, drop, length, refl, sym, ap, ◌∙◌, append_assoc, length-append, arith}
use Rattle.mllp_frame.specs.Event.{FramingEvent}
use Rattle.mllp_frame.specs.inner.Event.{event_of}
use Rattle.mllp_frame.specs.inner.Framed.{Framed}
use Rattle.engine_model.proofs.Handled.{first_event, front-more, handles-more, handles-nothing, handles-stop, on_err_always}
use Rattle.engine_model.proofs.connection.answer_events.Goals as goal

pub loop-event-init : goal.loop-event-init
loop-event-init g c =
    record {
      handled = [];
      whole = refl;
      does = handles-nothing c.args.line.now.conn c.args.line.now.channel c.args.now c.args.book.now c.args.words.now;
      rest = refl;
      plan = refl;
      counted = c.requires.counted;
      events = omega arith;
      few = c.requires.few;
      made = c.requires.made;
    }

pub returns-then-events-ge-FRAME_EVENTS_MAX-clause-err : goal.returns-then-events-ge-FRAME_EVENTS_MAX-clause-err
returns-then-events-ge-FRAME_EVENTS_MAX-clause-err g c =
    front-more c.args.line.now.conn c.args.line.now.channel c.args.now c.loop-event.invariant.handled [] c.loop-event.framer.to_come c.args.framer.now.to_come c.args.book.now c.loop-event.book c.loop-event.book c.args.words.now c.loop-event.words c.loop-event.words
    c.loop-event.invariant.whole c.loop-event.invariant.does
    (handles-stop c.args.line.now.conn c.args.line.now.channel c.args.now [] c.loop-event.book c.loop-event.words c.loop-event.words refl refl)

pub returns-then-events-ge-FRAME_EVENTS_MAX-2-clause-err : goal.returns-then-events-ge-FRAME_EVENTS_MAX-2-clause-err
returns-then-events-ge-FRAME_EVENTS_MAX-2-clause-err g c =
    front-more c.args.line.now.conn c.args.line.now.channel c.args.now c.loop-event.invariant.handled [] c.loop-event.framer.to_come c.args.framer.now.to_come c.args.book.now c.loop-event.book c.loop-event.book c.args.words.now c.loop-event.words c.loop-event.words
    c.loop-event.invariant.whole c.loop-event.invariant.does
    (handles-stop c.args.line.now.conn c.args.line.now.channel c.args.now [] c.loop-event.book c.loop-event.words c.loop-event.words refl refl)

pub loop-event-preserved : goal.loop-event-preserved
loop-event-preserved g c =
    let e : FramingEvent = event_of c.in-Some.event in
    let before : List FramingEvent = c.loop-event.invariant.handled in
    let first : c.loop-event.framer.to_come ≡ event_of c.in-Some.event ∷ drop 1 c.loop-event.framer.to_come = first_event c.loop-event.framer.to_come e c.in-Some.ensures.event in
    let rest : c.next.new.self.to_come ≡ drop 1 c.loop-event.framer.to_come = ap (λ (f : Framed). f.to_come) c.in-Some.ensures.rest in
    let size : length (c.loop-event.invariant.handled ++ event_of c.in-Some.event ∷ []) ≡ length c.loop-event.invariant.handled + 1 = length-append before (e ∷ []) in
    record {
      handled = c.loop-event.invariant.handled ++ event_of c.in-Some.event ∷ [];
      whole =
          c.loop-event.invariant.whole
          ∙ ap (λ l. c.loop-event.invariant.handled ++ l) first
          ∙ sym (append_assoc c.loop-event.invariant.handled (event_of c.in-Some.event ∷ []) (drop 1 c.loop-event.framer.to_come))
          ∙ ap (λ l. (c.loop-event.invariant.handled ++ event_of c.in-Some.event ∷ []) ++ l) (sym rest);
      does =
          handles-more c.args.line.now.conn c.args.line.now.channel c.args.now before (e ∷ []) c.args.book.now c.loop-event.book c.answer_event.new.book c.args.words.now c.loop-event.words c.answer_event.new.words
          c.loop-event.invariant.does c.in_ok-answer_event.ensures.ok;
      rest = ap (λ (f : Framed). record f { to_come = [] }) c.in-Some.ensures.rest ∙ c.loop-event.invariant.rest;
      plan = c.answer_event.ensures.plan ∙ c.loop-event.invariant.plan;
      counted = c.in_ok-answer_event.ensures.counted;
      events = omega (arith, size, c.loop-event.invariant.events);
      few = omega (arith, c.if-events-ge-FRAME_EVENTS_MAX.false);
      made = omega (arith, c.answer_event.ensures.few, c.loop-event.invariant.made);
    }

pub returns-in_err-answer_event-clause-err : goal.returns-in_err-answer_event-clause-err
returns-in_err-answer_event-clause-err g c =
    let e : FramingEvent = event_of c.in-Some.event in
    let first : c.loop-event.framer.to_come ≡ event_of c.in-Some.event ∷ drop 1 c.loop-event.framer.to_come = first_event c.loop-event.framer.to_come e c.in-Some.ensures.event in
    on_err_always c.from_residual.result
    (front-more c.args.line.now.conn c.args.line.now.channel c.args.now c.loop-event.invariant.handled (e ∷ []) (drop 1 c.loop-event.framer.to_come) c.args.framer.now.to_come c.args.book.now c.loop-event.book c.answer_event.new.book c.args.words.now c.loop-event.words c.answer_event.new.words
    (c.loop-event.invariant.whole ∙ ap (λ l. c.loop-event.invariant.handled ++ l) first)
    c.loop-event.invariant.does c.in_err-answer_event.ensures.err)
