use Rattle.std.proofs.Common.{◌≡◌, ◌≤◌, [], length}
use Rattle.std.specs.Io.KnownBytes.{Consumes}
use Rattle.conn_worker.proofs.stream.read_piece.Given as goal

-- nothing is read yet
abbrev pub invariant-again : goal.invariant-again
invariant-again g l =
    record {
      nothing : Consumes (g.R.Read.remaining l.fn.reader.inner) (g.R.Read.remaining l.reader.inner) [];
      faults : l.fn.reader.faults ≤ l.reader.faults;
      turns : l.turns ≤ l.fn.turns;
      room : length l.buffer ≡ length l.fn.buffer;
    }

abbrev pub decreases-again : goal.decreases-again
decreases-again g l = l.turns
