use Rattle.std.proofs.Common.{◌<◌, ◌+◌, subst, sym, arith}
use Rattle.std.specs.Int.Count.{count_trailing_zeros}
use Rattle.memchr.specs.Find.{Passes, Nowhere, is_byte}
use Rattle.mllp_frame.proofs.Lanes.{nowhere_among, none_before, one_behind}
use Rattle.mllp_frame.proofs.search.before_byte.Goals as goal

pub returns-then-found-eq0-clause-none : goal.returns-then-found-eq0-clause-none
returns-then-found-eq0-clause-none c = nowhere_among c.args.byte c.args.piece.now c.args.at c.requires (cc (c.lanes-found.ensures, c.if-found-eq0.true))

pub returns-else-found-eq0-clause-none : goal.returns-else-found-eq0-clause-none
returns-else-found-eq0-clause-none c =
    subst (λ n. Nowhere (Passes (is_byte c.args.byte) c.args.piece.now) c.args.at (c.args.at + count_trailing_zeros 64 n)) (sym c.lanes-found.ensures)
    (none_before c.args.byte c.args.piece.now c.args.at c.requires (omega (arith, c.lanes-found.ensures, c.if-found-eq0.false)))

pub returns-else-found-eq0-clause-here : goal.returns-else-found-eq0-clause-here
returns-else-found-eq0-clause-here c =
    subst (λ n. count_trailing_zeros 64 n < 64 → Passes (is_byte c.args.byte) c.args.piece.now (c.args.at + count_trailing_zeros 64 n)) (sym c.lanes-found.ensures)
    (one_behind c.args.byte c.args.piece.now c.args.at c.requires (omega (arith, c.lanes-found.ensures, c.if-found-eq0.false)))
