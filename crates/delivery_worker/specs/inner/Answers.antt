-- What proofs use beside the page Answers.
use Rattle.std.specs.Prelude.{ℕ, List, Option, None, Some, if◌then◌else◌}
use Rattle.er7_tree.specs.Tree.{Tree}
use Rattle.hl7_head.specs.Msa.{MsaFields, msa}
use Rattle.delivery_worker.specs.Answers.{answers_to}

-- the acknowledgment of a message, where there is one and it has an MSA
abbrev pub msa_in : Option Tree → Option MsaFields
msa_in None = None
msa_in (Some t) = msa t

-- the code of an acknowledgment, where it is one of the message with this control id
abbrev pub code_for : List ℕ → Option MsaFields → Option (List ℕ)
code_for control_id None = None
code_for control_id (Some msa) = if answers_to control_id msa then Some msa.code else None
