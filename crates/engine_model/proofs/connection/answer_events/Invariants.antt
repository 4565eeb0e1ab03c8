use Rattle.std.proofs.Common.{◌≡◌, ◌+◌, ◌*◌, ◌≤◌, [], ◌++◌, List, length}
use Rattle.event_log.specs.History.{plan_in_force}
use Rattle.mllp_frame.specs.Event.{FramingEvent}
use Rattle.mllp_frame.specs.inner.Framed.{Framed}
use Rattle.fixed_numbers.specs.declared.serving.TheConstants.{FRAME_EVENTS_MAX}
use Rattle.engine_model.specs.inner.Handling.{Handles, IsCounted}
use Rattle.engine_model.proofs.connection.answer_events.Given as goal

-- the events that are gone from the framer were handled
abbrev pub invariant-loop-event : goal.invariant-loop-event
invariant-loop-event g l =
    let emptied : Framed → Framed = λ f. record f { to_come = [] } in
    record {
      handled : List FramingEvent;
      whole : l.fn.framer.to_come ≡ handled ++ l.framer.to_come;
      does : Handles l.line.conn l.line.channel l.now handled l.fn.book l.book l.fn.words l.words;
      rest : emptied l.framer ≡ emptied l.fn.framer;
      plan : plan_in_force l.book ≡ plan_in_force l.fn.book;
      counted : IsCounted l.words;
      events : l.events ≡ l.fn.events + length handled;
      few : l.events ≤ FRAME_EVENTS_MAX;
      made : l.words.replies.made ≤ 2 * l.events;
    }

abbrev pub decreases-loop-event : goal.decreases-loop-event
decreases-loop-event g l = length l.framer.to_come
