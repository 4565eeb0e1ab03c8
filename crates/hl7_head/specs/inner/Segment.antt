-- The header of a message by its segment alone.
use Rattle.std.specs.Prelude.{ℕ, List}
use Rattle.er7_tree.specs.Delims.{Delims}
use Rattle.er7_tree.specs.declared.path.Part.TheVariants.{Component}
use Rattle.er7_tree.specs.Path.{field_at, part_of}
use Rattle.hl7_head.specs.Header.{Msh}

-- a component of the first repetition of a field
abbrev pub component_at : Delims → ℕ → ℕ → List ℕ → List ℕ
component_at d f c segment = part_of d (Component 1 c) (field_at d f segment)

-- the header that a header segment says with these delimiters
abbrev pub header_in : Delims → List ℕ → Msh
header_in d segment = record {
  delims = d;
  encoding_characters = field_at d 2 segment;
  sending_application = field_at d 3 segment;
  sending_facility = field_at d 4 segment;
  receiving_application = field_at d 5 segment;
  receiving_facility = field_at d 6 segment;
  message_code = component_at d 9 1 segment;
  trigger_event = component_at d 9 2 segment;
  control_id = field_at d 10 segment;
  processing_id = field_at d 11 segment;
  processing_code = component_at d 11 1 segment;
  version_id = field_at d 12 segment;
  version_code = component_at d 12 1 segment;
  accept_type = field_at d 15 segment;
  application_type = field_at d 16 segment;
}
