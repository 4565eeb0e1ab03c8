use Rattle.std.proofs.Common.{◌++◌, take, arith}
use Rattle.std.proofs.KnownBytes.{Appends-trans}
use Rattle.conn_worker.proofs.Written.{cut_rest}
use Rattle.conn_worker.proofs.stream.write_all.Goals as goal

pub write-preserved-in-Ok : goal.write-preserved-in-Ok
write-preserved-in-Ok g c =
    record {
      written = c.write.invariant.written ++ take c.in-Ok.len c.write.rest.now;
      whole = cut_rest _ _ _ c.in-Ok.len c.write.invariant.whole;
      wrote = Appends-trans _ _ _ _ _ c.write.invariant.wrote c.in-Ok.ensures.bytes;
      faults = omega (arith, c.write.invariant.faults, c.in-Ok.ensures.rising);
      turns = c.write.invariant.turns;
    }
