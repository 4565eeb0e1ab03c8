-- The message acknowledgment segment, MSA.
use Rattle.std.specs.Prelude.{List, ℕ, Option, codes, find}
use Rattle.std.specs.Option.{option_map}
use Rattle.er7_tree.specs.Delims.{Delims}
use Rattle.er7_tree.specs.Path.{field_at}
use Rattle.er7_tree.specs.Tree.{Tree, has_name}

-- MSA-1 to MSA-3, raw: the acknowledgment code, the control id that is answered, and a text
pub record MsaFields : Type 0 where
  pub code : List ℕ
  pub control_id : List ℕ
  pub text : List ℕ

-- the fields of such a segment
abbrev pub msa_fields : Delims → List ℕ → MsaFields
msa_fields d segment = record { code = field_at d 1 segment; control_id = field_at d 2 segment; text = field_at d 3 segment }

-- the fields of the first such segment of a message, none where it has none
abbrev pub msa : Tree → Option MsaFields
msa t = option_map (msa_fields t.delims) (find (has_name (codes "MSA")) t.segments)
