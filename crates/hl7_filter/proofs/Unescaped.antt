-- A text without an escape character.
use Rattle.std.proofs.Common.{◌≡◌, ℕ, suc, List, [], ◌∷◌, Bool, true, false, not, nat_eq, length, Option, None, Some, refl, sym, ap, arith}
use Rattle.std.specs.Option.{is_some}
use Rattle.std.proofs.lemmas.Bool.{and_parts, false_from_ne_true}
use Rattle.std.proofs.lemmas.List.Folds.{list_all_at}
use Rattle.memchr.specs.Find.{IsFirstByte, Nowhere, Passes, is_byte}
use Rattle.er7_tree.specs.Delims.{Delims, lacks}
use Rattle.er7_tree.specs.Escape.{plain, plain_pieces}
use Rattle.er7_tree.specs.Pieces.{split}

false_from_not : (x : Bool) → not x ≡ true → x ≡ false
false_from_not true h = sym h
false_from_not false h = refl

nowhere : (b : ℕ) (bytes : List ℕ) → Nowhere (Passes (is_byte b) bytes) 0 (length bytes) → lacks b bytes ≡ true
nowhere b [] none = refl
nowhere b (x ∷ xs) none =
    let other : nat_eq x b ≡ false = false_from_ne_true _ (none 0 (omega arith) (omega arith)) in
    rw other (nowhere b xs (λ k low high. none (suc k) (omega arith) (omega arith)))

-- what a search answers tells whether the byte is lacking
pub finds_none : (b : ℕ) (bytes : List ℕ) (at : Option ℕ) (none : Bool) → IsFirstByte (is_byte b) bytes at → is_some at ≡ not none → none ≡ lacks b bytes
finds_none b bytes None true is tells = sym (nowhere b bytes is)
finds_none b bytes None false is tells = let bad : false ≡ true = tells in cc
finds_none b bytes (Some k) true is tells = let bad : true ≡ false = tells in cc
finds_none b bytes (Some k) false is tells = sym (list_all_at (λ c. not (nat_eq c b)) bytes k 0 is.0.high (ap not is.1))

one_piece : (b : ℕ) (text : List ℕ) → lacks b text ≡ true → split b text ≡ text ∷ []
one_piece b [] h = refl
one_piece b (x ∷ xs) h =
    let parts = and_parts _ _ h in
    let other : nat_eq x b ≡ false = false_from_not _ parts.0 in
    rw (other, one_piece b xs parts.1) refl

-- a text in which nothing is escaped means itself
pub plain-unescaped : (d : Delims) (text : List ℕ) → lacks d.escape text ≡ true → plain d text ≡ text
plain-unescaped d text h = ap (plain_pieces d) (one_piece d.escape text h)
