use Rattle.std.proofs.Common.{ap}
use Rattle.er7_tree.specs.Tree.{written}
use Rattle.er7_tree.proofs.Messages.{tree_is, tree_segments}
use Rattle.er7_tree.proofs.Printing.{reads_again}
use Rattle.er7_tree.proofs.laws.printing_rules.Goals as goal

pub returns-clause-message : goal.returns-clause-message
returns-clause-message c = tree_is

pub returns-clause-segments : goal.returns-clause-segments
returns-clause-segments c = tree_segments

pub returns-clause-printed : goal.returns-clause-printed
returns-clause-printed c = λ text t read. ap written (tree_segments text t read)

pub returns-clause-again : goal.returns-clause-again
returns-clause-again c = reads_again
