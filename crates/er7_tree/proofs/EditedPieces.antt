-- A text with another piece.
use Rattle.std.proofs.Common.{◌≡◌, ◌≢◌, ℕ, zero, suc, ◌-◌, ◌<◌, Bool, true, false, not, List, [], ◌∷◌, ◌++◌, length, get_or, refl, ap, ◌∙◌, arith, nat_eq}
use Rattle.std.proofs.lemmas.Bool.{and_parts, and_from, eq-eqb}
use Rattle.std.proofs.lemmas.List.Folds.{list_all-append}
use Rattle.std.specs.List.{list_all}
use Rattle.er7_tree.specs.Delims.{lacks}
use Rattle.er7_tree.specs.Pieces.{split, join, put, put_after, piece_at}
use Rattle.er7_tree.proofs.Distinct.{not_true}
use Rattle.er7_tree.proofs.Messages.{split_lacks, split_own}
use Rattle.er7_tree.proofs.Putting.{some_put}

pub lacks-append : (b : ℕ) (xs ys : List ℕ) → lacks b xs ≡ true → lacks b ys ≡ true → lacks b (xs ++ ys) ≡ true
lacks-append b xs ys first second = list_all-append (λ c. not (nat_eq c b)) xs ys ∙ and_from _ _ first second

-- a text without separators is one piece, and one before a separator is the first piece
pub split-whole : (separator : ℕ) (piece : List ℕ) → lacks separator piece ≡ true → split separator piece ≡ piece ∷ []
split-whole separator [] lack = refl
split-whole separator (b ∷ piece) lack =
    let parts = and_parts (not (nat_eq b separator)) (lacks separator piece) lack in
    rw (not_true _ parts.0, split-whole separator piece parts.1) refl

pub split-append : (separator : ℕ) (piece rest : List ℕ) → lacks separator piece ≡ true → split separator (piece ++ separator ∷ rest) ≡ piece ∷ split separator rest
split-append separator [] rest lack = rw (eq-eqb separator separator refl) refl
split-append separator (b ∷ piece) rest lack =
    let parts = and_parts (not (nat_eq b separator)) (lacks separator piece) lack in
    rw (not_true _ parts.0, split-append separator piece rest parts.1) refl

pub split-join : (separator : ℕ) (pieces : List (List ℕ)) → 0 < length pieces → list_all (lacks separator) pieces ≡ true → split separator (join separator pieces) ≡ pieces
split-join separator [] some lack = absurd (omega arith)
split-join separator (piece ∷ []) some lack = split-whole separator piece (and_parts _ _ lack).0
split-join separator (piece ∷ next ∷ pieces) some lack =
    let parts = and_parts (lacks separator piece) (list_all (lacks separator) (next ∷ pieces)) lack in
    split-append separator piece (join separator (next ∷ pieces)) parts.0 ∙ ap (λ more. piece ∷ more) (split-join separator (next ∷ pieces) (omega arith) parts.1)

pub list_all-get_or : (test : List ℕ → Bool) (pieces : List (List ℕ)) (k : ℕ) → list_all test pieces ≡ true → test [] ≡ true → test (get_or pieces k []) ≡ true
list_all-get_or test [] k all none = none
list_all-get_or test (piece ∷ pieces) zero all none = (and_parts (test piece) (list_all test pieces) all).0
list_all-get_or test (piece ∷ pieces) (suc k) all none = list_all-get_or test pieces k (and_parts (test piece) (list_all test pieces) all).1 none

-- what each piece and the new one pass, each passes
list_all-put_after : (test : List ℕ → Bool) (k : ℕ) (f : List ℕ → List ℕ) (pieces : List (List ℕ)) → list_all test pieces ≡ true → test [] ≡ true → test (f (get_or pieces k [])) ≡ true
    → list_all test (put_after k f pieces) ≡ true
list_all-put_after test zero f [] all none new = and_from _ _ new refl
list_all-put_after test zero f (piece ∷ pieces) all none new = and_from _ _ new (and_parts (test piece) (list_all test pieces) all).1
list_all-put_after test (suc k) f [] all none new = and_from _ _ none (list_all-put_after test k f [] refl none new)
list_all-put_after test (suc k) f (piece ∷ pieces) all none new =
    let parts = and_parts (test piece) (list_all test pieces) all in and_from _ _ parts.0 (list_all-put_after test k f pieces parts.1 none new)

pub get_or-put_after : (k : ℕ) (f : List ℕ → List ℕ) (pieces : List (List ℕ)) → get_or (put_after k f pieces) k [] ≡ f (get_or pieces k [])
get_or-put_after zero f [] = refl
get_or-put_after zero f (piece ∷ pieces) = refl
get_or-put_after (suc k) f [] = get_or-put_after k f []
get_or-put_after (suc k) f (piece ∷ pieces) = get_or-put_after k f pieces

pub get_or-put_after-other : (k m : ℕ) (f : List ℕ → List ℕ) (pieces : List (List ℕ)) → m ≢ k → get_or (put_after k f pieces) m [] ≡ get_or pieces m []
get_or-put_after-other zero zero f pieces other = absurd (other refl)
get_or-put_after-other zero (suc m) f [] other = refl
get_or-put_after-other zero (suc m) f (piece ∷ pieces) other = refl
get_or-put_after-other (suc k) zero f [] other = refl
get_or-put_after-other (suc k) zero f (piece ∷ pieces) other = refl
get_or-put_after-other (suc k) (suc m) f [] other = get_or-put_after-other k m f [] (λ same. other (ap suc same))
get_or-put_after-other (suc k) (suc m) f (piece ∷ pieces) other = get_or-put_after-other k m f pieces (λ same. other (ap suc same))

pub lacks-join : (b separator : ℕ) (pieces : List (List ℕ)) → nat_eq separator b ≡ false → list_all (lacks b) pieces ≡ true → lacks b (join separator pieces) ≡ true
lacks-join b separator [] other lack = refl
lacks-join b separator (piece ∷ []) other lack = (and_parts (lacks b piece) true lack).0
lacks-join b separator (piece ∷ next ∷ pieces) other lack =
    let parts = and_parts (lacks b piece) (list_all (lacks b) (next ∷ pieces)) lack in
    lacks-append b piece (separator ∷ join separator (next ∷ pieces)) parts.0 (rw other (lacks-join b separator (next ∷ pieces) other parts.1))

-- a piece lacks its separator, and what the text lacks
pub piece-own : (separator n : ℕ) (text : List ℕ) → lacks separator (piece_at n (split separator text)) ≡ true
piece-own separator n text = list_all-get_or (lacks separator) (split separator text) (n - 1) (split_own separator text) refl

pub piece-lacks : (b separator n : ℕ) (text : List ℕ) → lacks b text ≡ true → lacks b (piece_at n (split separator text)) ≡ true
piece-lacks b separator n text lack = list_all-get_or (lacks b) (split separator text) (n - 1) (split_lacks b separator text lack) refl

-- the pieces after an edit, of which the new one lacks the separator
module _ (separator n : ℕ) (f : List ℕ → List ℕ) (text : List ℕ) (lack : lacks separator (f (piece_at n (split separator text))) ≡ true) where
  pub split-put : split separator (put separator n f text) ≡ put_after (n - 1) f (split separator text)
  split-put =
      split-join separator (put_after (n - 1) f (split separator text)) (some_put (n - 1) f (split separator text))
      (list_all-put_after (lacks separator) (n - 1) f (split separator text) (split_own separator text) refl lack)

  pub put-same : piece_at n (split separator (put separator n f text)) ≡ f (piece_at n (split separator text))
  put-same = rw split-put (get_or-put_after (n - 1) f (split separator text))

  pub put-other : (m : ℕ) → m - 1 ≢ n - 1 → piece_at m (split separator (put separator n f text)) ≡ piece_at m (split separator text)
  put-other m other = rw split-put (get_or-put_after-other (n - 1) (m - 1) f (split separator text) other)

-- an edit adds no byte but the separator's and those of the new piece
pub lacks-put : (b separator n : ℕ) (f : List ℕ → List ℕ) (text : List ℕ) → nat_eq separator b ≡ false → lacks b text ≡ true → lacks b (f (piece_at n (split separator text))) ≡ true
    → lacks b (put separator n f text) ≡ true
lacks-put b separator n f text other lack new =
    lacks-join b separator (put_after (n - 1) f (split separator text)) other
    (list_all-put_after (lacks b) (n - 1) f (split separator text) (split_lacks b separator text lack) refl new)
