-- Another piece in a text.
use Rattle.std.proofs.Common.{◌≡◌, ℕ, zero, suc, ◌+◌, ◌-◌, ◌<◌, List, [], ◌∷◌, ◌++◌, length, Option, Some, None, get_or, refl, sym, ap, ◌∙◌, MatchOption, arith, append_assoc, Bor}
use Rattle.std.proofs.lemmas.List.Splits.{join_with_byte-slice_split}
use Rattle.er7_tree.specs.Pieces.{split, join, put, put_after, piece_at}
use Rattle.er7_tree.specs.inner.Pieces.{pieces_left}
use Rattle.er7_tree.proofs.Escaping.{some_piece}

-- a piece before others that are not none
before : (separator : ℕ) (piece : List ℕ) (pieces : List (List ℕ)) → 0 < length pieces → join separator (piece ∷ pieces) ≡ piece ++ (separator ∷ join separator pieces)
before separator piece [] some = absurd (omega arith)
before separator piece (next ∷ pieces) some = refl

pub some_put : (n : ℕ) (f : List ℕ → List ℕ) (pieces : List (List ℕ)) → 0 < length (put_after n f pieces)
some_put zero f [] = omega arith
some_put zero f (piece ∷ pieces) = omega arith
some_put (suc n) f [] = omega arith
some_put (suc n) f (piece ∷ pieces) = omega arith

pub rejoined : (separator : ℕ) (text : List ℕ) → join separator (split separator text) ≡ text
rejoined separator text = join_with_byte-slice_split separator text

-- one piece is passed
pub passed : (separator n : ℕ) (f : List ℕ → List ℕ) (out piece : List ℕ) (pieces : List (List ℕ)) (all : List ℕ) → 0 < n
    → out ++ join separator (put_after n f (piece ∷ pieces)) ≡ all
    → ((out ++ piece) ++ separator ∷ []) ++ join separator (put_after (n - 1) f pieces) ≡ all
passed separator n f out piece pieces all lt so_far =
    let e : n ≡ suc (n - 1) = omega arith in
    let one : join separator (put_after n f (piece ∷ pieces)) ≡ piece ++ (separator ∷ join separator (put_after (n - 1) f pieces)) =
    ap (λ k. join separator (put_after k f (piece ∷ pieces))) e ∙ before separator piece (put_after (n - 1) f pieces) (some_put (n - 1) f pieces) in
    simp append_assoc (ap (λ more. out ++ more) (sym one) ∙ so_far)

-- one that is missing is added
pub added : (separator n : ℕ) (f : List ℕ → List ℕ) (out all : List ℕ) → 0 < n
    → out ++ join separator (put_after n f []) ≡ all
    → (out ++ separator ∷ []) ++ join separator (put_after (n - 1) f []) ≡ all
added separator n f out all lt so_far =
    let e : n ≡ suc (n - 1) = omega arith in
    let one : join separator (put_after n f []) ≡ separator ∷ join separator (put_after (n - 1) f []) =
    ap (λ k. join separator (put_after k f [])) e ∙ before separator [] (put_after (n - 1) f []) (some_put (n - 1) f []) in
    simp append_assoc (ap (λ more. out ++ more) (sym one) ∙ so_far)

-- the last piece is replaced
pub placed : (separator : ℕ) (new out piece after all : List ℕ) → out ++ join separator (put_after 0 (λ _. new) (piece ∷ split separator after)) ≡ all
    → ((out ++ new) ++ separator ∷ []) ++ after ≡ all
placed separator new out piece after all so_far =
    let one : join separator (new ∷ split separator after) ≡ new ++ (separator ∷ after) =
    before separator new (split separator after) (some_piece separator after) ∙ ap (λ more. new ++ (separator ∷ more)) (rejoined separator after) in
    simp append_assoc (ap (λ more. out ++ more) (sym one) ∙ so_far)

pub step_some : (separator n counter : ℕ) (new out read put text piece all : List ℕ) (after : Option (Bor (List ℕ))) → counter < n
    → MatchOption after (split separator text ≡ piece ∷ []) (λ rest. split separator text ≡ piece ∷ split separator rest.now)
    → read ≡ out ++ piece → put ≡ read ++ separator ∷ []
    → out ++ join separator (put_after (n - counter) (λ _. new) (split separator text)) ≡ all
    → put ++ join separator (put_after (n - (counter + 1)) (λ _. new) (pieces_left separator after)) ≡ all
step_some separator n counter new out read put text piece all None lt cut is_read is_put so_far =
    let e : n - (counter + 1) ≡ n - counter - 1 = omega arith in
    rw (is_put, is_read, e) (passed separator (n - counter) (λ _. new) out piece [] all (omega arith) (rw cut at so_far))
step_some separator n counter new out read put text piece all (Some rest) lt cut is_read is_put so_far =
    let e : n - (counter + 1) ≡ n - counter - 1 = omega arith in
    rw (is_put, is_read, e) (passed separator (n - counter) (λ _. new) out piece (split separator rest.now) all (omega arith) (rw cut at so_far))

pub step_none : (separator n counter : ℕ) (new out put all : List ℕ) → counter < n → put ≡ out ++ separator ∷ []
    → out ++ join separator (put_after (n - counter) (λ _. new) []) ≡ all
    → put ++ join separator (put_after (n - (counter + 1)) (λ _. new) []) ≡ all
step_none separator n counter new out put all lt is_put so_far =
    let e : n - (counter + 1) ≡ n - counter - 1 = omega arith in
    rw (is_put, e) (added separator (n - counter) (λ _. new) out all (omega arith) so_far)

pub end_some : (separator left_over : ℕ) (new out with_new with_separator done text piece after all : List ℕ) → left_over ≡ 0
    → split separator text ≡ piece ∷ split separator after → with_new ≡ out ++ new → with_separator ≡ with_new ++ separator ∷ [] → done ≡ with_separator ++ after
    → out ++ join separator (put_after left_over (λ _. new) (split separator text)) ≡ all → done ≡ all
end_some separator left_over new out with_new with_separator done text piece after all none_left cut is_new is_separator is_done so_far =
    rw (is_done, is_separator, is_new) (placed separator new out piece after all (rw (none_left, cut) at so_far))

pub end_last : (separator left_over : ℕ) (new out with_new text piece all : List ℕ) → left_over ≡ 0 → split separator text ≡ piece ∷ [] → with_new ≡ out ++ new
    → out ++ join separator (put_after left_over (λ _. new) (split separator text)) ≡ all → with_new ≡ all
end_last separator left_over new out with_new text piece all none_left cut is_new so_far = rw is_new (rw (none_left, cut) at so_far)

pub end_none : (separator left_over : ℕ) (new out with_new all : List ℕ) → left_over ≡ 0 → with_new ≡ out ++ new
    → out ++ join separator (put_after left_over (λ _. new) []) ≡ all → with_new ≡ all
end_none separator left_over new out with_new all none_left is_new so_far = rw is_new (rw none_left at so_far)

-- a piece that is changed is replaced
put_after_by : (n : ℕ) (f : List ℕ → List ℕ) (pieces : List (List ℕ)) → put_after n f pieces ≡ put_after n (λ _. f (get_or pieces n [])) pieces
put_after_by zero f [] = refl
put_after_by zero f (piece ∷ pieces) = refl
put_after_by (suc n) f [] = ap (λ more. [] ∷ more) (put_after_by n f [])
put_after_by (suc n) f (piece ∷ pieces) = ap (λ more. piece ∷ more) (put_after_by n f pieces)

pub put_by : (separator n : ℕ) (f : List ℕ → List ℕ) (text new : List ℕ) → new ≡ f (piece_at n (split separator text)) → put separator n f text ≡ put separator n (λ _. new) text
put_by separator n f text new is =
    ap (join separator) (put_after_by (n - 1) f (split separator text)) ∙ ap (λ new. put separator n (λ _. new) text) (sym is)
