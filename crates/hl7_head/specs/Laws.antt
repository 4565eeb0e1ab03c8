-- Words of what holds of all messages.
use Rattle.std.specs.Prelude.{ℕ, List, Option, None, Result, Ok, Err}
use Rattle.er7_tree.specs.declared.refusal.Refusal.{Refusal}
use Rattle.er7_tree.specs.Tree.{Tree, tree}
use Rattle.hl7_head.specs.Msa.{MsaFields, msa}

-- the answer that a text gives, none where it can't be read or has no MSA
abbrev pub msa_where : Result Tree Refusal → Option MsaFields
msa_where (Ok t) = msa t
msa_where (Err _) = None

abbrev pub msa_of : List ℕ → Option MsaFields
msa_of text = msa_where (tree text)
