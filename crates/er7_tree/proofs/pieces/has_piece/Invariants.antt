use Rattle.std.proofs.Common.{◌≡◌, ◌+◌, length}
use Rattle.er7_tree.specs.Pieces.{split}
use Rattle.er7_tree.proofs.pieces.has_piece.Given as goal

abbrev pub invariant-loop : goal.invariant-loop
invariant-loop l = length (split l.separator l.rest) + l.counter ≡ length (split l.separator l.text) + 1
