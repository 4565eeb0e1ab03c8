-- What is appended piece by piece is appended as a whole.
use Rattle.std.proofs.Common.{◌≡◌, ℕ, List, ◌++◌, ◌∙◌, ap, append_assoc}

pub two : (old a b x y : List ℕ) → x ≡ old ++ a → y ≡ x ++ b → y ≡ old ++ (a ++ b)
two old a b x y p q = q ∙ (ap (λ (z : List ℕ). z ++ b) p ∙ append_assoc old a b)

pub four : (old a b c d x y z end : List ℕ) → x ≡ old ++ a → y ≡ x ++ b → z ≡ y ++ c → end ≡ z ++ d → end ≡ old ++ (a ++ b ++ c ++ d)
four old a b c d x y z end p q r s = two old (a ++ b ++ c) d z end (two old (a ++ b) c y z (two old a b x y p q) r) s

pub five : (old a b c d e x y z w end : List ℕ) → x ≡ old ++ a → y ≡ x ++ b → z ≡ y ++ c → w ≡ z ++ d → end ≡ w ++ e → end ≡ old ++ (a ++ b ++ c ++ d ++ e)
five old a b c d e x y z w end p q r s t = two old (a ++ b ++ c ++ d) e w end (four old a b c d x y z w p q r s) t

-- pieces that are appended one by one
pub grouped : (old a b c end : List ℕ) → end ≡ ((old ++ a) ++ b) ++ c → end ≡ old ++ (a ++ b ++ c)
grouped old a b c end is = is ∙ (ap (λ (z : List ℕ). z ++ c) (append_assoc old a b) ∙ append_assoc old (a ++ b) c)
