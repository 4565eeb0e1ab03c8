use Rattle.std.proofs.Common.{◌≡◌, ◌≤◌, false}
use Rattle.conn_worker.specs.inner.Session.{IsReady, SoFar}
use Rattle.conn_worker.proofs.session.Session.serve_pieces.Given as goal

-- what was read is answered
abbrev pub invariant-pieces : goal.invariant-pieces
invariant-pieces g l =
    record {
      so_far : SoFar (g.B.Booking.books l.fn.book) g.B.Booking.knows g.K.ReceiptSink.has l.line.conn l.line.channel (g.R.Read.remaining l.fn.reader.inner) (g.R.Read.remaining l.reader.inner) (g.W.Write.contents l.fn.writer.inner) (g.W.Write.contents l.writer.inner) l.book l.self;
      ready : IsReady l.self;
      channels : g.B.Booking.channels l.book ≡ g.B.Booking.channels l.fn.book;
      reader : l.fn.reader.faults ≤ l.reader.faults;
      writer : l.fn.writer.faults ≤ l.writer.faults;
      flushed : l.fn.writer.unflushed ≡ false → l.writer.unflushed ≡ false;
    }

abbrev pub decreases-pieces : goal.decreases-pieces
decreases-pieces g l = l.self.turns
