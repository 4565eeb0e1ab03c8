-- A text with another piece of a piece.
use Rattle.std.proofs.Common.{◌≡◌, ◌≢◌, ℕ, ◌-◌, ◌≤◌, true, false, not, List, [], ◌∷◌, length, map, refl, sym, ap, ◌∙◌, arith, nat_eq, nat_le, inl, inr, ◌⊎◌}
use Rattle.std.proofs.lemmas.Bool.{and_parts, and_from, cases_Bool, false≢true, eqb-true, eq-eqb, leb-true}
use Rattle.std.specs.List.{list_all, starts_with, zip}
use Rattle.er7_tree.specs.Delims.{lacks, all_distinct}
use Rattle.er7_tree.specs.Pieces.{split, piece_at}
use Rattle.er7_tree.specs.Path.{piece_in, is_number}
use Rattle.er7_tree.specs.Edit.{put_in}
use Rattle.er7_tree.proofs.Distinct.{not_true}
use Rattle.er7_tree.proofs.EditedPieces.{put-same, put-other, lacks-put, piece-own, piece-lacks}

-- the separators of levels
abbrev pub separators : List (ℕ × ℕ) → List ℕ
separators levels = map (λ level. level.0) levels

-- the piece holds none of them
abbrev pub Fits : List (ℕ × ℕ) → List ℕ → Type 0
Fits levels piece = list_all (λ separator. lacks separator piece) (separators levels) ≡ true

-- an edit adds no byte but those of separators and of the new piece
pub lacks-put_in : (b : ℕ) (levels : List (ℕ × ℕ)) (piece text : List ℕ) → lacks b (separators levels) ≡ true → lacks b text ≡ true → lacks b piece ≡ true → lacks b (put_in levels piece text) ≡ true
lacks-put_in b [] piece text other lack new = new
lacks-put_in b ((separator, n) ∷ levels) piece text other lack new =
    let parts = and_parts (not (nat_eq separator b)) (lacks b (separators levels)) other in
    lacks-put b separator n (put_in levels piece) text (not_true _ parts.0) lack
    (lacks-put_in b levels piece (piece_at n (split separator text)) parts.1 (piece-lacks b separator n text lack) new)

pub lacks-piece_in : (b : ℕ) (levels : List (ℕ × ℕ)) (text : List ℕ) → lacks b text ≡ true → lacks b (piece_in levels text) ≡ true
lacks-piece_in b [] text lack = lack
lacks-piece_in b ((separator, n) ∷ levels) text lack = lacks-piece_in b levels (piece_at n (split separator text)) (piece-lacks b separator n text lack)

-- a piece holds none of the separators at which it was cut
pub fits-piece_in : (levels : List (ℕ × ℕ)) (text : List ℕ) → Fits levels (piece_in levels text)
fits-piece_in [] text = refl
fits-piece_in ((separator, n) ∷ levels) text =
    and_from _ _ (lacks-piece_in separator levels (piece_at n (split separator text)) (piece-own separator n text)) (fits-piece_in levels (piece_at n (split separator text)))

-- the new piece of a level holds no separator of it
pub own-put_in : (separator n : ℕ) (levels : List (ℕ × ℕ)) (piece text : List ℕ) → lacks separator (separators levels) ≡ true → lacks separator piece ≡ true
    → lacks separator (put_in levels piece (piece_at n (split separator text))) ≡ true
own-put_in separator n levels piece text other new = lacks-put_in separator levels piece (piece_at n (split separator text)) other (piece-own separator n text) new

-- the new piece is read back
pub piece_in-put_in : (levels : List (ℕ × ℕ)) (piece text : List ℕ) → all_distinct (separators levels) ≡ true → Fits levels piece → piece_in levels (put_in levels piece text) ≡ piece
piece_in-put_in [] piece text distinct fits = refl
piece_in-put_in ((separator, n) ∷ levels) piece text distinct fits =
    let apart = and_parts (lacks separator (separators levels)) (all_distinct (separators levels)) distinct in
    let fit = and_parts (lacks separator piece) (list_all (λ separator. lacks separator piece) (separators levels)) fits in
    ap (piece_in levels) (put-same separator n (put_in levels piece) text (own-put_in separator n levels piece text apart.0 fit.0))
    ∙ piece_in-put_in levels piece (piece_at n (split separator text)) apart.1 fit.1

-- two ways inwards that part
abbrev pub Part_ways : List (ℕ × ℕ) → List (ℕ × ℕ) → Type 0
Part_ways [] others = ⊥
Part_ways (level ∷ levels) [] = ⊥
Part_ways (level ∷ levels) (other ∷ others) = (level.0 ≡ other.0) × ((other.1 - 1 ≢ level.1 - 1) ⊎ ((level.1 ≡ other.1) × Part_ways levels others))

-- and what is found on the other
pub piece_in-put_in-other : (levels others : List (ℕ × ℕ)) (piece text : List ℕ) → all_distinct (separators levels) ≡ true → Fits levels piece → Part_ways levels others
    → piece_in others (put_in levels piece text) ≡ piece_in others text
piece_in-put_in-other [] others piece text distinct fits ways = absurd ways
piece_in-put_in-other (level ∷ levels) [] piece text distinct fits ways = absurd ways
piece_in-put_in-other ((separator, n) ∷ levels) ((same_separator, m) ∷ others) piece text distinct fits (same, inl other) =
    let apart = and_parts (lacks separator (separators levels)) (all_distinct (separators levels)) distinct in
    let fit = and_parts (lacks separator piece) (list_all (λ separator. lacks separator piece) (separators levels)) fits in
    rw (sym same) (ap (piece_in others) (put-other separator n (put_in levels piece) text (own-put_in separator n levels piece text apart.0 fit.0) m other))
piece_in-put_in-other ((separator, n) ∷ levels) ((same_separator, m) ∷ others) piece text distinct fits (same, inr (same_number, later)) =
    let apart = and_parts (lacks separator (separators levels)) (all_distinct (separators levels)) distinct in
    let fit = and_parts (lacks separator piece) (list_all (λ separator. lacks separator piece) (separators levels)) fits in
    rw (sym same, sym same_number) (ap (piece_in others) (put-same separator n (put_in levels piece) text (own-put_in separator n levels piece text apart.0 fit.0))
    ∙ piece_in-put_in-other levels others piece (piece_at n (split separator text)) apart.1 fit.1 later)

-- numbers of which neither begins the other lead on ways that part
pub parting : (cuts numbers others : List ℕ) → length numbers ≤ length cuts → length others ≤ length cuts → list_all is_number numbers ≡ true → list_all is_number others ≡ true
    → starts_with nat_eq numbers others ≡ false → starts_with nat_eq others numbers ≡ false → Part_ways (zip cuts numbers) (zip cuts others)
parting cuts [] others few few_others good good_others no_first no_second = absurd (false≢true (sym no_second))
parting cuts (n ∷ numbers) [] few few_others good good_others no_first no_second = absurd (false≢true (sym no_first))
parting [] (n ∷ numbers) (m ∷ others) few few_others good good_others no_first no_second = absurd (omega arith)
parting (cut ∷ cuts) (n ∷ numbers) (m ∷ others) few few_others good good_others no_first no_second =
    let ours = and_parts (is_number n) (list_all is_number numbers) good in
    let theirs = and_parts (is_number m) (list_all is_number others) good_others in
    elim (cases_Bool (nat_eq n m)) [
      | inl same ↦ (
        refl,
        inr (
          eqb-true n m same,
          parting cuts numbers others (omega arith) (omega arith) ours.1 theirs.1
              (rw (eq-eqb m n (sym (eqb-true n m same))) at no_first) (rw same at no_second),
        ),
      )
      | inr other ↦ (refl, inl (λ same. false≢true (sym other ∙ eq-eqb n m (one_less n m (at_least n ours.0) (at_least m theirs.0) same))))
    ] where
      at_least : (k : ℕ) → is_number k ≡ true → 1 ≤ k
      at_least k good = leb-true 1 k (and_parts (nat_le 1 k) (nat_le k 999) good).0

      one_less : (n m : ℕ) → 1 ≤ n → 1 ≤ m → m - 1 ≡ n - 1 → n ≡ m
      one_less n m some some_other same = omega arith
