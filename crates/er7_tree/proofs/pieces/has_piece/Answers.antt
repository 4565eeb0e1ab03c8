use Rattle.std.proofs.Common.{sym, arith}
use Rattle.std.proofs.lemmas.Bool.{le-leb}
use Rattle.er7_tree.proofs.Escaping.{some_piece}
use Rattle.er7_tree.proofs.pieces.has_piece.Goals as goal

pub returns : goal.returns
returns c = sym (le-leb _ _ (omega (arith, c.loop.invariant, some_piece c.args.separator c.loop.rest.now)))
