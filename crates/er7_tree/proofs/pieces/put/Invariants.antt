use Rattle.std.proofs.Common.{◌≡◌, ◌-◌, ◌++◌}
use Rattle.er7_tree.specs.Pieces.{join, put, put_after}
use Rattle.er7_tree.specs.inner.Pieces.{pieces_left}
use Rattle.er7_tree.proofs.pieces.put.Given as goal

abbrev pub invariant-loop : goal.invariant-loop
invariant-loop l =
    l.out.items ++ join l.separator (put_after (l.n - l.counter) (λ _. l.new) (pieces_left l.separator l.rest)) ≡ put l.separator l.n (λ _. l.new) l.text
