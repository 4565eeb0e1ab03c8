-- Lists by place.
use Rattle.std.proofs.Common.{◌≡◌, ℕ, suc, zero, ◌+◌, ◌≤◌, ◌<◌, List, [], ◌∷◌, ◌++◌, None, Some, length, take, refl, sym, ap, ◌∙◌, add-one, append-nil, append_assoc, arith}
use Rattle.std.specs.Prelude.{slice_get}
use Rattle.std.proofs.lemmas.List.{take_all}
use Rattle.engine_report.specs.Lines.{lines_from}

-- within a list there is an item
pub some-within : {X : Type 0} (xs : List X) (n : ℕ) → slice_get xs n ≡ None → n < length xs → ⊥
some-within [] n none within = omega arith
some-within (x ∷ xs) zero none within = absurd cc
some-within (x ∷ xs) (suc n) none within = some-within xs n none (omega arith)

-- the line of one more item
lines-suc : {X : Type 0} (line : ℕ → X → List ℕ) (place : ℕ) (xs : List X) (n : ℕ) (x : X) → slice_get xs n ≡ Some x
    → lines_from line place (take (suc n) xs) ≡ lines_from line place (take n xs) ++ line (place + n) x
lines-suc line place [] n x is = absurd cc
lines-suc line place (y ∷ ys) zero x is =
    let same : y ≡ x = cc in
    let here : place ≡ place + 0 = omega arith in
    simp append-nil (ap (λ z. line place z) same ∙ ap (λ k. line k x) here)
lines-suc line place (y ∷ ys) (suc n) x is =
    let here : (place + 1) + n ≡ place + suc n = omega arith in
    let rest = take n ys in
    ap (λ t. line place y ++ t) (lines-suc line (place + 1) ys n x is)
    ∙ (ap (λ k. line place y ++ (lines_from line (place + 1) rest ++ line k x)) here ∙ sym (append_assoc (line place y) (lines_from line (place + 1) rest) (line (place + suc n) x)))

-- a text with the line of one more item
pub lines-more : {X : Type 0} (line : ℕ → X → List ℕ) (xs : List X) (n : ℕ) (x : X) (before text new : List ℕ)
    → text ≡ before ++ lines_from line 0 (take n xs) → slice_get xs n ≡ Some x → new ≡ text ++ line n x → new ≡ before ++ lines_from line 0 (take (n + 1) xs)
lines-more line xs n x before text new so_far is added =
    let here : 0 + n ≡ n = omega arith in
    let one : lines_from line 0 (take (suc n) xs) ≡ lines_from line 0 (take n xs) ++ line n x = lines-suc line 0 xs n x is ∙ ap (λ k. lines_from line 0 (take n xs) ++ line k x) here in
    added ∙ (ap (λ t. t ++ line n x) so_far ∙ (append_assoc before (lines_from line 0 (take n xs)) (line n x) ∙ (ap (λ t. before ++ t) (sym one) ∙ rw add-one refl)))

-- the lines of all items
pub lines-all : {X : Type 0} (line : ℕ → X → List ℕ) (xs : List X) (n : ℕ) (before text : List ℕ) → text ≡ before ++ lines_from line 0 (take n xs) → length xs ≤ n
    → text ≡ before ++ lines_from line 0 xs
lines-all line xs n before text so_far whole = so_far ∙ ap (λ l. before ++ lines_from line 0 l) (take_all n xs whole)
