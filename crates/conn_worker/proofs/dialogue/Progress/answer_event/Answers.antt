use Rattle.std.proofs.Common.{[], refl, arith, append-nil}
use Rattle.conn_worker.proofs.Standing.{passed_break}
use Rattle.conn_worker.proofs.dialogue.Progress.answer_event.Goals as goal

pub returns-in-Broken-clause-ok : goal.returns-in-Broken-clause-ok
returns-in-Broken-clause-ok g c first before text s =
    rw c.in-Broken.is (passed_break c.in-Broken.cause c.args.self.now _ s
    (record {
      booked = λ rs h. g.met.B.Booking.after _ _ _ rs [] h c.note_break.ensures;
      known = λ channel raw k. g.met.B.Booking.still_knows _ _ [] channel raw c.note_break.ensures k;
      kept = λ rs h. rw append-nil h;
    })
    (record {
      unbooked = refl;
      unreadable = omega arith;
      strays = omega arith;
      breaks = refl;
      made = refl;
      bytes = refl;
    }))
