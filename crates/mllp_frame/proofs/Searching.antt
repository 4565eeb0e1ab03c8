-- What a search for a byte says of a byte string.
use Rattle.std.proofs.Common.{◌≡◌, ℕ, zero, suc, ◌+◌, ◌-◌, ◌<◌, ◌≤◌, Bool, false, List, [], ◌∷◌, ◌++◌, length, take, drop, get_or, min, sym, ap, ◌∙◌, arith, length-take, get_or-take}
use Rattle.std.proofs.lemmas.Bool.{false_from_ne_true}
use Rattle.std.proofs.lemmas.List.{drop_more, get_or_default, take-append-drop, take_min}
use Rattle.std.proofs.lemmas.List.Elements.{recursion_from_All}
use Rattle.std.specs.List.{AllByRecursion}
use Rattle.memchr.specs.Find.{Passes, Nowhere}

-- each byte fails the test
abbrev pub Fails : (ℕ → Bool) → List ℕ → Type 0
Fails test s = AllByRecursion (λ b. test b ≡ false) s

fails_at : (test : ℕ → Bool) (hay : List ℕ) (k j d : ℕ) → k ≤ length hay → Nowhere (Passes test hay) 0 k → j < length (take k hay) → test (get_or (take k hay) j d) ≡ false
fails_at test hay k j d fits none below =
    let near : j < k = omega (arith, length-take k hay) in
    ap test (get_or-take k hay j d near ∙ get_or_default hay j d 0 (omega arith))
    ∙ false_from_ne_true (test (get_or hay j 0)) (none j (omega arith) near)

pub fails_before : (test : ℕ → Bool) (hay : List ℕ) (k : ℕ) → k ≤ length hay → Nowhere (Passes test hay) 0 k → Fails test (take k hay)
fails_before test hay k fits none = recursion_from_All _ (take k hay) (λ j d below. fails_at test hay k j d fits none below)

pub fails_all : (test : ℕ → Bool) (hay : List ℕ) → Nowhere (Passes test hay) 0 (length hay) → Fails test hay
fails_all test hay none =
    recursion_from_All _ hay (λ j d below. ap test (get_or_default hay j d 0 below) ∙ false_from_ne_true (test (get_or hay j 0)) (none j (omega arith) below))

-- a string round one of its places
pub split_at : (hay : List ℕ) (k : ℕ) → k < length hay → hay ≡ take k hay ++ get_or hay k 0 ∷ drop (k + 1) hay
split_at hay k fits = sym (take-append-drop k hay) ∙ ap (λ l. take k hay ++ l) (drop_more hay k 0 fits)

-- the front of a list of which some is there
pub take_past : (m : ℕ) (d more : List ℕ) → length d ≤ m → take m (d ++ more) ≡ d ++ take (m - length d) more
take_past m [] more fits = let e : m ≡ m - 0 = omega arith in ap (λ n. take n more) e
take_past zero (b ∷ d) more fits = absurd (omega arith)
take_past (suc m) (b ∷ d) more fits =
    let e : m - length d ≡ suc m - suc (length d) = omega arith in
    ap (λ l. b ∷ l) (take_past m d more (omega arith) ∙ ap (λ n. d ++ take n more) e)

pub take_by : (m : ℕ) (d more : List ℕ) → length d ≤ m → d ++ take (min (m - length d) (length more)) more ≡ take m (d ++ more)
take_by m d more fits = ap (λ l. d ++ l) (take_min (m - length d) more) ∙ sym (take_past m d more fits)
