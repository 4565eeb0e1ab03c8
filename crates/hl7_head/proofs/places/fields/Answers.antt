use Rattle.std.proofs.Common.{◌≡◌, ◌+◌, arith, refl}
use Rattle.std.proofs.lemmas.Simd.{length-replicate}
use Rattle.hl7_head.proofs.Cutting.{reads_more}
use Rattle.hl7_head.proofs.places.fields.Goals as goal

pub loop-piece-init : goal.loop-piece-init
loop-piece-init g c = record {
  reads = record {
    sized = length-replicate g.row.N _;
    inside = record { behind = omega arith; ordered = c.requires.ordered; within = c.requires.within };
    done = λ k d low. absurd (omega arith);
    others = λ k. let same : 0 + k + 1 ≡ k + 1 = omega arith in rw same refl;
  };
  ahead = c.from-ahead.ensures.ahead c.args.separator c.args.text.now (let o = c.requires.ordered in let w = c.requires.within in omega arith);
  here = λ lt. c.from-ahead.ensures.at;
}

pub loop-piece-preserved : goal.loop-piece-preserved
loop-piece-preserved g c =
    let more = reads_more _ _ _ _ _ _ _ _ c.loop-piece-test.true c.piece_ahead-start.ensures.read c.loop-piece.invariant.reads in
    let least = c.piece_ahead-start.ensures.next in
    record {
      reads = rw least more;
      ahead = c.piece_ahead-start.ensures.ahead;
      here = λ lt. let at = c.piece_ahead-start.ensures.here (omega (arith, least, lt)) in omega (arith, least, lt, at);
    }
