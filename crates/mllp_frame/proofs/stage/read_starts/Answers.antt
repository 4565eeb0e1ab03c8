use Rattle.std.proofs.Common.{◌+◌, ◌-◌, map, ◌∷◌, [], ◌++◌, length, drop, arith, length-take}
use Rattle.std.proofs.lemmas.List.{map-append, length-drop}
use Rattle.mllp_frame.specs.declared.Break.TheVariants.{NewStart}
use Rattle.mllp_frame.specs.Event.{broken}
use Rattle.mllp_frame.specs.Framing.{start_block}
use Rattle.mllp_frame.specs.inner.Event.{event_of}
use Rattle.mllp_frame.specs.inner.Framing.{begun_block}
use Rattle.mllp_frame.proofs.ReadSteps.{reads_on}
use Rattle.mllp_frame.proofs.Steps.{behind, data_start, short_none}
use Rattle.mllp_frame.proofs.stage.read_starts.Goals as goal

pub starts-preserved : goal.starts-preserved
starts-preserved c =
    let found = c.in-Some.ensures in
    let rest = c.starts.rest.now in
    let old = map event_of c.args.events.now.items in
    let mid = map event_of c.starts.events.items in
    let d = c.starts.bytes.items in
    let here = data_start mid rest d c.in-Some.at c.starts.invariant.short found.0 c.if-rest-at-eq-START_BLOCK.true in
    record {
      reads = rw (c.push_back_reserved.ensures.items, c.in_ok-reserve.ensures.items, map-append, c.clear.ensures.items)
          (reads_on old mid (mid ++ broken NewStart ∷ []) (begun_block c.args.bytes.now.items ++ c.args.piece.now) (begun_block d ++ rest) (start_block ∷ behind rest (c.in-Some.at + 1)) c.starts.invariant.reads here);
      short = rw c.clear.ensures.items short_none;
      nearer = omega (arith, length-take (length rest - (c.in-Some.at + 1)) (drop (c.in-Some.at + 1) rest), length-drop (c.in-Some.at + 1) rest, c.starts.invariant.nearer);
    }
