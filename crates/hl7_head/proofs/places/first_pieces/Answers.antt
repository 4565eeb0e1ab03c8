use Rattle.std.proofs.Common.{arith}
use Rattle.hl7_head.proofs.Cutting.{reads_more}
use Rattle.hl7_head.proofs.places.first_pieces.Goals as goal

pub loop-piece-preserved : goal.loop-piece-preserved
loop-piece-preserved g c =
    let more = reads_more _ _ _ _ _ _ _ _ c.loop-piece-test.true c.first_piece-first.ensures c.loop-piece.invariant in
    rw c.min.ensures more

pub returns : goal.returns
returns g c = record {
  within = λ k d short. (c.loop-piece.invariant.done k d (omega (arith, c.loop-piece.invariant.sized))).within;
  read = λ k d short. (c.loop-piece.invariant.done k d (omega (arith, c.loop-piece.invariant.sized))).read;
}
