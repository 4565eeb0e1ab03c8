use Rattle.std.proofs.Common.{◌≡◌, ◌≤◌, [], ◌++◌, List, length}
use Rattle.mllp_frame.specs.Event.{FramingEvent}
use Rattle.mllp_frame.specs.inner.Framed.{Framed}
use Rattle.conn_worker.specs.inner.Handling.{HandlesAll, Fits}
use Rattle.conn_worker.proofs.dialogue.Progress.answer_events.Given as goal

-- the events that are gone from the framer were handled
abbrev pub invariant-loop-event : goal.invariant-loop-event
invariant-loop-event g l =
    let emptied : Framed → Framed = λ f. record f { to_come = [] } in
    record {
      handled : List FramingEvent;
      whole : l.fn.framer.to_come ≡ handled ++ l.framer.to_come;
      stands : HandlesAll g.B.Booking.books g.B.Booking.knows g.K.ReceiptSink.has l.line.conn l.line.channel handled l.fn.book l.book l.fn.self l.self;
      rest : emptied l.framer ≡ emptied l.fn.framer;
      channels : g.B.Booking.channels l.book ≡ g.B.Booking.channels l.fn.book;
      fits : Fits l.self;
      few : l.self.events ≤ l.events_max;
    }

abbrev pub decreases-loop-event : goal.decreases-loop-event
decreases-loop-event g l = length l.framer.to_come
