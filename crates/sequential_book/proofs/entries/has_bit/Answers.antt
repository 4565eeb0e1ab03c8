use Rattle.std.proofs.Common.{◌≡◌, arith}
use Rattle.std.specs.Int.{bit_at}
use Rattle.std.proofs.lemmas.Bool.Decides.{nat_tests}
use Rattle.std.proofs.lemmas.Nat.Bits.{bit_at_above}
use Rattle.sequential_book.proofs.entries.has_bit.Goals as goal

pub returns-else-d-lt-BITS : goal.returns-else-d-lt-BITS
returns-else-d-lt-BITS c =
    let clear : bit_at c.args.mask c.args.d ≡ 0 = bit_at_above c.args.mask 32 c.args.d (omega arith) c.if-d-lt-BITS.false in
    rw clear (grind (arith, nat_tests))
