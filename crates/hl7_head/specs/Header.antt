-- The message header, the segment MSH.
use Rattle.std.specs.Prelude.{ℕ, List, Option, None, Some, Result, Ok, Err}
use Rattle.er7_tree.specs.Delims.{Delims}
use Rattle.er7_tree.specs.declared.refusal.Refusal.{Refusal}
use Rattle.er7_tree.specs.Path.{raw, header_place}
use Rattle.er7_tree.specs.Tree.{Tree, tree}

-- the fields and components of MSH that an engine reads, raw
pub record Msh : Type 0 where
  pub delims : Delims
  pub encoding_characters : List ℕ
  pub sending_application : List ℕ
  pub sending_facility : List ℕ
  pub receiving_application : List ℕ
  pub receiving_facility : List ℕ
  pub message_code : List ℕ
  pub trigger_event : List ℕ
  pub control_id : List ℕ
  pub processing_id : List ℕ
  pub processing_code : List ℕ
  pub version_id : List ℕ
  pub version_code : List ℕ
  pub accept_type : List ℕ
  pub application_type : List ℕ

-- a field of MSH
abbrev pub field : Tree → ℕ → List ℕ
field t f = raw t (header_place f None)

-- a component of the first repetition of a field of MSH
abbrev pub component : Tree → ℕ → ℕ → List ℕ
component t f c = raw t (header_place f (Some c))

-- the header of a message
abbrev pub header : Tree → Msh
header t = record {
  delims = t.delims;
  encoding_characters = field t 2;
  sending_application = field t 3;
  sending_facility = field t 4;
  receiving_application = field t 5;
  receiving_facility = field t 6;
  message_code = component t 9 1;
  trigger_event = component t 9 2;
  control_id = field t 10;
  processing_id = field t 11;
  processing_code = component t 11 1;
  version_id = field t 12;
  version_code = component t 12 1;
  accept_type = field t 15;
  application_type = field t 16;
}

abbrev pub header_where : Result Tree Refusal → Option Msh
header_where (Ok t) = Some (header t)
header_where (Err _) = None

-- the header of a text, none where the text can't be read
abbrev pub header_of : List ℕ → Option Msh
header_of text = header_where (tree text)
