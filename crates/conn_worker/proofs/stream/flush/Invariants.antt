use Rattle.std.proofs.Common.{◌≤◌}
use Rattle.std.specs.Io.KnownBytes.{Keeps}
use Rattle.conn_worker.proofs.stream.flush.Given as goal

-- the bytes stay
abbrev pub invariant-again : goal.invariant-again
invariant-again g l =
    record {
      bytes : Keeps (g.W.Write.contents l.fn.writer.inner) (g.W.Write.contents l.writer.inner);
      faults : l.fn.writer.faults ≤ l.writer.faults;
      turns : l.turns ≤ l.fn.turns;
    }

abbrev pub decreases-again : goal.decreases-again
decreases-again g l = l.turns
