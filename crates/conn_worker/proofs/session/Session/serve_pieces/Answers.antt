use Rattle.std.proofs.Common.{refl, ◌∙◌, arith}
use Rattle.conn_worker.proofs.Pieces.{starts}
use Rattle.conn_worker.proofs.session.Session.serve_pieces.Goals as goal

pub pieces-init : goal.pieces-init
pieces-init g c =
    record {
      so_far = starts _ _ _ _ _ _ c.requires.fresh (g.met.B.Booking.nothing _);
      ready = c.requires.ready;
      channels = refl;
      reader = omega arith;
      writer = omega arith;
      flushed = λ fresh. fresh;
    }

pub pieces-preserved : goal.pieces-preserved
pieces-preserved g c =
    record {
      so_far = c.in-Ok.ensures.ok _ _ _ c.pieces.invariant.so_far;
      ready = c.in-Ok.ensures.ready;
      channels = c.serve_piece.ensures.channels ∙ c.pieces.invariant.channels;
      reader = omega (arith, c.serve_piece.ensures.reader, c.pieces.invariant.reader);
      writer = omega (arith, c.serve_piece.ensures.writer, c.pieces.invariant.writer);
      flushed = λ fresh. c.in-Ok.ensures.flushed (c.pieces.invariant.flushed fresh);
    }
