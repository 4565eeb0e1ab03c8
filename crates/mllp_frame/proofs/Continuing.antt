-- A search that goes on from an index before which nothing was found.
use Rattle.std.proofs.Common.{◌≡◌, ℕ, ◌+◌, ◌-◌, ◌≤◌, Bool, List, length, take, drop, get_or, sym, ap, ◌∙◌, subst, arith, inl, inr}
use Rattle.std.proofs.lemmas.Bool.{cases_lt}
use Rattle.std.proofs.lemmas.List.{get_or-drop, length-drop, take_rest}
use Rattle.memchr.specs.Find.{Passes, Nowhere, NoneBefore}

module _ (test : ℕ → Bool) (piece : List ℕ) (from : ℕ) (fits : from ≤ length piece) (none : Nowhere (Passes test piece) 0 from) where
  -- what is left, as `&piece[from..]` reads it
  abbrev left : List ℕ
  left = take (length piece - from) (drop from piece)

  left_len : from + length left ≡ length piece
  left_len = let e : length left ≡ length piece - from = ap length (take_rest piece from) ∙ length-drop from piece in omega arith

  at : (k : ℕ) → get_or left k 0 ≡ get_or piece (from + k) 0
  at k = ap (λ l. get_or l k 0) (take_rest piece from) ∙ get_or-drop from piece k 0

  nowhere_to : (m : ℕ) → Nowhere (Passes test left) 0 m → Nowhere (Passes test piece) 0 (from + m)
  nowhere_to m later k low high here =
      elim (cases_lt k from) as (λ _. ⊥) [
        | inl near ↦ none k low near here
        | inr far ↦
            let back : from + (k - from) ≡ k = omega arith in
            later (k - from) (omega arith) (omega arith) (ap test (at (k - from) ∙ ap (λ i. get_or piece i 0) back) ∙ here)
      ]

  pub none_left : Nowhere (Passes test left) 0 (length left) → Nowhere (Passes test piece) 0 (length piece)
  none_left later = subst (λ m. Nowhere (Passes test piece) 0 m) left_len (nowhere_to (length left) later)

  pub first_left : (found : ℕ) → NoneBefore (Passes test left) 0 (length left) found × Passes test left found → NoneBefore (Passes test piece) 0 (length piece) (from + found) × Passes test piece (from + found)
  first_left found is = (
    record { low = omega arith; high = omega (arith, left_len, is.0.high); before = nowhere_to found is.0.before },
    ap test (sym (at found)) ∙ is.1,
  )
