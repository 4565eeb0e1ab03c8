use Rattle.std.proofs.Common.{◌≡◌, ◌∷◌, [], ◌++◌, List, drop, refl, sym, ap, ◌∙◌, append_assoc, append-nil, arith}
use Rattle.mllp_frame.specs.Event.{FramingEvent}
use Rattle.mllp_frame.specs.inner.Event.{event_of}
use Rattle.mllp_frame.specs.inner.Framed.{Framed}
use Rattle.conn_worker.proofs.Standing.{first_event, handled_more, handled_front, front_of_more, stop_between, on_err_always}
use Rattle.conn_worker.proofs.dialogue.Progress.answer_events.Goals as goal

pub loop-event-init : goal.loop-event-init
loop-event-init g c =
    record {
      handled = [];
      whole = refl;
      stands = λ first before text s. rw append-nil s;
      rest = refl;
      channels = refl;
      fits = c.requires.fits;
      few = c.requires.few;
    }

pub returns-then-self-events_max-clause-err : goal.returns-then-self-events_max-clause-err
returns-then-self-events_max-clause-err g c = stop_between c.loop-event.framer.to_come c.loop-event.invariant.stands c.loop-event.invariant.whole

pub loop-event-preserved : goal.loop-event-preserved
loop-event-preserved g c =
    let e : FramingEvent = event_of c.in-Some.event in
    let old : List FramingEvent = c.loop-event.framer.to_come in
    let first : c.loop-event.framer.to_come ≡ event_of c.in-Some.event ∷ drop 1 c.loop-event.framer.to_come = first_event old e c.in-Some.ensures.event in
    let rest : c.next.new.self.to_come ≡ drop 1 c.loop-event.framer.to_come = ap (λ (f : Framed). f.to_come) c.in-Some.ensures.rest in
    record {
      handled = c.loop-event.invariant.handled ++ event_of c.in-Some.event ∷ [];
      whole =
          c.loop-event.invariant.whole
          ∙ ap (λ l. c.loop-event.invariant.handled ++ l) first
          ∙ sym (append_assoc c.loop-event.invariant.handled (event_of c.in-Some.event ∷ []) (drop 1 c.loop-event.framer.to_come))
          ∙ ap (λ l. (c.loop-event.invariant.handled ++ event_of c.in-Some.event ∷ []) ++ l) (sym rest);
      stands = handled_more c.loop-event.invariant.stands c.in_ok-answer_event.ensures.ok;
      rest = ap (λ (f : Framed). record f { to_come = [] }) c.in-Some.ensures.rest ∙ c.loop-event.invariant.rest;
      channels = c.answer_event.ensures.channels ∙ c.loop-event.invariant.channels;
      fits = c.in_ok-answer_event.ensures.fits;
      few = omega (arith, c.in_ok-answer_event.ensures.counted, c.if-self-events_max.false);
    }

pub returns-in_err-answer_event-clause-err : goal.returns-in_err-answer_event-clause-err
returns-in_err-answer_event-clause-err g c =
    let e : FramingEvent = event_of c.in-Some.event in
    let old : List FramingEvent = c.loop-event.framer.to_come in
    let first : c.loop-event.framer.to_come ≡ event_of c.in-Some.event ∷ drop 1 c.loop-event.framer.to_come = first_event old e c.in-Some.ensures.event in
    on_err_always c.from_residual.result
    (front_of_more (drop 1 c.loop-event.framer.to_come) (handled_front c.loop-event.invariant.stands c.in_err-answer_event.ensures.err)
    (c.loop-event.invariant.whole
    ∙ ap (λ l. c.loop-event.invariant.handled ++ l) first
    ∙ sym (append_assoc c.loop-event.invariant.handled (event_of c.in-Some.event ∷ []) (drop 1 c.loop-event.framer.to_come))))
