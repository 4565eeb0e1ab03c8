-- Lemmas on the entries of a seat, and on what a seat has seen.
use Rattle.std.proofs.Common.{◌≡◌, ◌≢◌, ℕ, ◌<◌, ◌==◌, Bool, true, false, List, [], ◌∷◌, ◌++◌, map, length, refl, ap, sym, ◌∙◌, arith, length-append, append_assoc, All}
use Rattle.std.specs.List.{filter}
use Rattle.std.proofs.lemmas.List.{append-nil, map-append}
use Rattle.std.proofs.lemmas.List.Elements.{filter-append, All-cons, All-head, All-nil, All-tail}
use Rattle.std.proofs.lemmas.Bool.Decides.{nat_tests}
use mathlib.Core.List.{IsPrefix}
use Rattle.ghost_log.specs.Seats.{is_by, entries_of, Agrees}

module _ {E : Type 0} where
  pub entries-append : (i : ℕ) (xs ys : List (ℕ × E)) → entries_of i (xs ++ ys) ≡ entries_of i xs ++ entries_of i ys
  entries-append i xs ys = ap (map (λ (x : ℕ × E). x.1)) (filter-append (is_by i) xs ys) ∙ map-append (λ (x : ℕ × E). x.1) (filter (is_by i) xs) (filter (is_by i) ys)

  no_more : (xs : List E) → length xs ≡ 0 → xs ≡ []
  no_more [] h = refl
  no_more (x ∷ xs) h = absurd (omega arith)

  -- where a prefix has as many entries of a seat as the whole, the rest has none
  pub rest_none : (i : ℕ) (xs ys : List (ℕ × E)) (p : IsPrefix xs ys) → length (entries_of i xs) ≡ length (entries_of i ys) → entries_of i p.0 ≡ []
  rest_none i xs ys p h =
      let all : entries_of i ys ≡ entries_of i xs ++ entries_of i p.0 = ap (entries_of i) (sym p.1) ∙ entries-append i xs p.0 in
      no_more (entries_of i p.0) (omega (arith, h, ap length all, length-append (entries_of i xs) (entries_of i p.0)))

  one_at : (i k : ℕ) (e : E) (b : Bool) → (k == i) ≡ b → (k ≡ i → entries_of i ((k, e) ∷ []) ≡ e ∷ []) × (k ≢ i → entries_of i ((k, e) ∷ []) ≡ [])
  one_at i k e true is = ((λ _. rw is refl), (λ apart. absurd (apart (grind (arith, nat_tests)))))
  one_at i k e false is = ((λ same. absurd (grind (arith, nat_tests))), (λ _. rw is refl))

  pub entry_one : (i : ℕ) (e : E) → entries_of i ((i, e) ∷ []) ≡ e ∷ []
  entry_one i e = (one_at i i e (i == i) refl).0 refl

  pub entry_other : (i k : ℕ) (e : E) → k ≢ i → entries_of i ((k, e) ∷ []) ≡ []
  entry_other i k e apart = (one_at i k e (k == i) refl).1 apart

  pub entries_more : (i : ℕ) (log : List (ℕ × E)) (e : E) → entries_of i (log ++ (i, e) ∷ []) ≡ entries_of i log ++ e ∷ []
  entries_more i log e = entries-append i log ((i, e) ∷ []) ∙ ap (λ w. entries_of i log ++ w) (entry_one i e)

  pub entries_others : (i k : ℕ) (es : List E) → k ≢ i → entries_of i (map (λ e. (k, e)) es) ≡ []
  entries_others i k [] apart = refl
  entries_others i k (e ∷ es) apart = entries-append i ((k, e) ∷ []) (map (λ e. (k, e)) es) ∙ ap (λ w. w ++ entries_of i (map (λ e. (k, e)) es)) (entry_other i k e apart) ∙ entries_others i k es apart

  pub within_others : (n k : ℕ) (es : List E) → k < n → All (λ (x : ℕ × E). x.0 < n) (map (λ e. (k, e)) es)
  within_others n k [] lt = All-nil (λ (x : ℕ × E). x.0 < n)
  within_others n k (e ∷ es) lt = All-cons (λ (x : ℕ × E). x.0 < n) (k, e) (map (λ e. (k, e)) es) lt (within_others n k es lt)

  -- a number that no entry has yet
  pub none_yet : (n : ℕ) (log : List (ℕ × E)) → All (λ x. x.0 < n) log → entries_of n log ≡ []
  none_yet n [] h = refl
  none_yet n (x ∷ xs) h =
      entries-append n (x ∷ []) xs ∙ ap (λ w. w ++ entries_of n xs) (entry_other n x.0 x.1 (λ same. let lt : x.0 < n = All-head (λ (y : ℕ × E). y.0 < n) x xs h in omega arith)) ∙ none_yet n xs (All-tail (λ (y : ℕ × E). y.0 < n) x xs h)

  pub agrees_self : (k : ℕ) (log : List (ℕ × E)) → Agrees k log log
  agrees_self k log = record { begins = ([], append-nil log); own = refl }

  pub agrees_others : (i k : ℕ) (seen log : List (ℕ × E)) (es : List E) → k ≢ i → Agrees i seen log → Agrees i seen (log ++ map (λ e. (k, e)) es)
  agrees_others i k seen log es apart h = record {
    begins = (h.begins.0 ++ map (λ e. (k, e)) es, sym (append_assoc seen h.begins.0 (map (λ e. (k, e)) es)) ∙ ap (λ w. w ++ map (λ e. (k, e)) es) h.begins.1);
    own = entries-append i log (map (λ e. (k, e)) es) ∙ ap (λ w. entries_of i log ++ w) (entries_others i k es apart) ∙ append-nil (entries_of i log) ∙ h.own;
  }
