use Rattle.std.proofs.Common.{◌≡◌, find, Some, arith, refl, codes}
use Rattle.er7_tree.specs.Tree.{has_name}
use Rattle.er7_tree.specs.declared.segments.Span.{Span}
use Rattle.hl7_head.proofs.HeaderSegment.{found_passes, msa_field_read}
use Rattle.hl7_head.proofs.msa.answered.Goals as goal

pub returns : goal.returns
returns c =
    let t = c.args.message.now in
    let segment = c.in-Some.segment.now in
    let found : Some segment ≡ find (has_name (codes "MSA")) t.segments = c.in-Some.ensures in
    let named = found_passes (has_name (codes "MSA")) t.segments segment found in
    let nowhere : Span = record { start = 0; end = 0 } in
    let pieces = rw (c.whole.ensures.all, c.field.ensures, c.delims.ensures) at c.first_pieces.ensures in
    let read = msa_field_read t.delims segment c.first_pieces.result named pieces in
    let code = read 1 nowhere (omega arith) in
    let control_id = read 2 nowhere (omega arith) in
    record {
      code = rw (c.of.ensures, ← found, code) refl;
      control_id = rw (c.of-2.ensures, ← found, control_id) refl;
    }
