use Rattle.std.proofs.Common.{arith, get_or, refl}
use Rattle.er7_tree.specs.declared.segments.Span.{Span}
use Rattle.er7_tree.specs.inner.Spans.{covered}
use Rattle.hl7_head.proofs.HeaderSegment.{field_read, component_read}
use Rattle.hl7_head.proofs.places.Places.of.Goals as goal

pub returns-clause-pieces : goal.returns-clause-pieces
returns-clause-pieces c =
    let none : Span = record { start = 0; end = 0 } in
    let pieces = rw (c.field.ensures) at c.fields.ensures in
    let field = field_read c.args.delims (covered c.args.text.now c.args.segment) c.args.text.now c.fields.result c.requires.header pieces in
    let encoding_characters = field 1 none (omega arith) (omega arith) in
    let sending_application = field 2 none (omega arith) (omega arith) in
    let sending_facility = field 3 none (omega arith) (omega arith) in
    let receiving_application = field 4 none (omega arith) (omega arith) in
    let receiving_facility = field 5 none (omega arith) (omega arith) in
    let message_type = field 8 none (omega arith) (omega arith) in
    let control_id = field 9 none (omega arith) (omega arith) in
    let processing_id = field 10 none (omega arith) (omega arith) in
    let version_id = field 11 none (omega arith) (omega arith) in
    let accept_type = field 14 none (omega arith) (omega arith) in
    let application_type = field 15 none (omega arith) (omega arith) in
    let type_part = component_read c.args.delims (covered c.args.text.now c.args.segment) c.args.text.now (get_or c.fields.result 8 none) 9 c.components.result message_type c.components.ensures in
    let processing_part = component_read c.args.delims (covered c.args.text.now c.args.segment) c.args.text.now (get_or c.fields.result 10 none) 11 c.components-2.result processing_id c.components-2.ensures in
    let version_part = component_read c.args.delims (covered c.args.text.now c.args.segment) c.args.text.now (get_or c.fields.result 11 none) 12 c.components-3.result version_id c.components-3.ensures in
    let message_code = type_part 0 none (omega arith) in
    let trigger_event = type_part 1 none (omega arith) in
    let processing_code = processing_part 0 none (omega arith) in
    let version_code = version_part 0 none (omega arith) in
    rw (
      encoding_characters,
      sending_application,
      sending_facility,
      receiving_application,
      receiving_facility,
      message_code,
      trigger_event,
      control_id,
      processing_id,
      processing_code,
      version_id,
      version_code,
      accept_type,
      application_type,
    ) refl
