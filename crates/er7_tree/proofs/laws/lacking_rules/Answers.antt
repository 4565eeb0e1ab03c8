use Rattle.std.proofs.Common.{◌≡◌, List, ℕ, true, sym, subst}
use Rattle.std.specs.List.{list_all}
use Rattle.er7_tree.specs.Delims.{lacks}
use Rattle.er7_tree.proofs.Messages.{tree_segments, segments_lack}
use Rattle.er7_tree.proofs.Lacking.{raw_lacks, written_lacks}
use Rattle.er7_tree.proofs.laws.lacking_rules.Goals as goal

pub returns-clause-segments : goal.returns-clause-segments
returns-clause-segments c = λ b text t bare read. subst (λ (segments : List (List ℕ)). list_all (lacks b) segments ≡ true) (sym (tree_segments text t read)) (segments_lack b text bare)

pub returns-clause-pieces : goal.returns-clause-pieces
returns-clause-pieces c = raw_lacks

pub returns-clause-printed : goal.returns-clause-printed
returns-clause-printed c = λ b t other bare. written_lacks b t.segments other bare
