-- Whether two numbers are the same.
use Rattle.std.proofs.Common.{◌≡◌, ◌==◌, ℕ, true, false, arith}
use Rattle.std.proofs.lemmas.Bool.Decides.{nat_tests}

pub number_refl : (p : ℕ) → (p == p) ≡ true
number_refl p = grind (arith, nat_tests)

pub number_eq : (p q : ℕ) → (p == q) ≡ true → p ≡ q
number_eq p q e = grind (arith, nat_tests)

pub number_symm : (p q : ℕ) → (q == p) ≡ false → (p == q) ≡ false
number_symm p q e = grind (arith, nat_tests)
