use Rattle.std.proofs.Common.{◌≡◌, ◌≤◌, ◌+◌, ◌++◌, List, ℕ, length}
use Rattle.std.specs.Io.KnownBytes.{Appends}
use Rattle.conn_worker.proofs.stream.write_all.Given as goal

-- the front is written, and the rest is left
abbrev pub invariant-write : goal.invariant-write
invariant-write g l =
    record {
      written : List ℕ;
      whole : l.fn.replies ≡ written ++ l.rest;
      wrote : Appends (g.W.Write.contents l.fn.writer.inner) (g.W.Write.contents l.writer.inner) written;
      faults : l.fn.writer.faults ≤ l.writer.faults;
      turns : l.turns ≤ l.fn.turns;
    }

abbrev pub decreases-write : goal.decreases-write
decreases-write g l = length l.rest + l.turns
