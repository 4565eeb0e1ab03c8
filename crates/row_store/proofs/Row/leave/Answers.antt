use Rattle.std.proofs.Common.{sym, ◌∙◌, arith, refl}
use Rattle.row_store.proofs.Bits.{within_width, without-set}
use Rattle.row_store.proofs.Row.leave.Goals as goal

pub overflow_shl-self : goal.overflow_shl-self
overflow_shl-self g c = within_width c.args.self.now.mask c.args.d 32 (omega arith) (sym c.stands_in.ensures ∙ c.if-stands_in.true)

pub returns-then-stands_in : goal.returns-then-stands_in
returns-then-stands_in g c = rw (without-set c.args.self.now.mask c.args.d (omega arith) (sym c.stands_in.ensures ∙ c.if-stands_in.true)) refl
