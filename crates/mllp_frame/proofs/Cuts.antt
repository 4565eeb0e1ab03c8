-- A byte string cut at its data: what stands at its front, and what comes after.
use Rattle.std.proofs.Common.{◌≡◌, ℕ, zero, suc, true, false, ◌==◌, List, [], ◌∷◌, ◌++◌, take, inl, inr, refl, ap, ◌∙◌, append-nil}
use Rattle.std.proofs.Math.Numerals.{one-add}
use Rattle.std.proofs.lemmas.Bool.{cases_Bool, or_parts}
use Rattle.std.specs.List.{AllByRecursion}
use Rattle.mllp_frame.specs.Framing.{start_block, end_block, is_framing, data_of, rest_of, decision, block_outcome, blocks}
use Rattle.mllp_frame.specs.inner.Framing.{open_end}

-- data, by recursion
abbrev pub Plain : List ℕ → Type 0
Plain s = AllByRecursion (λ b. is_framing b ≡ false) s

pub data_of-cons : (b : ℕ) (s : List ℕ) → is_framing b ≡ false → data_of (b ∷ s) ≡ b ∷ data_of s
data_of-cons b s plain = rw (plain, one-add)

pub rest_of-cons : (b : ℕ) (s : List ℕ) → is_framing b ≡ false → rest_of (b ∷ s) ≡ rest_of s
rest_of-cons b s plain = rw (plain, one-add)

pub data_of-stop : (b : ℕ) (s : List ℕ) → is_framing b ≡ true → data_of (b ∷ s) ≡ []
data_of-stop b s framing = rw framing

pub rest_of-stop : (b : ℕ) (s : List ℕ) → is_framing b ≡ true → rest_of (b ∷ s) ≡ b ∷ s
rest_of-stop b s framing = rw framing

pub data_of-append : (d x : List ℕ) → Plain d → data_of (d ++ x) ≡ d ++ data_of x
data_of-append [] x plain = refl
data_of-append (b ∷ d) x plain = data_of-cons b (d ++ x) plain.0 ∙ ap (λ l. b ∷ l) (data_of-append d x plain.1)

pub rest_of-append : (d x : List ℕ) → Plain d → rest_of (d ++ x) ≡ rest_of x
rest_of-append [] x plain = refl
rest_of-append (b ∷ d) x plain = rest_of-cons b (d ++ x) plain.0 ∙ rest_of-append d x plain.1

-- no data goes on here: the string ends, or one of the two bytes stands at its front
abbrev pub Stops : List ℕ → Type 0
Stops [] = Unit {0}
Stops (b ∷ s) = is_framing b ≡ true

-- the data at the front, and what comes after it
pub record Cut (s : List ℕ) : Type 0 where
  pub front : List ℕ
  pub after : List ℕ
  pub whole : s ≡ front ++ after
  pub plain : Plain front
  pub stops : Stops after

pub cut : (s : List ℕ) → Cut s
cut [] = record { front = []; after = []; whole = refl; plain = tt; stops = tt }
cut (b ∷ s) =
    elim (cases_Bool (is_framing b)) as (λ _. Cut (b ∷ s)) [
      | inl framing ↦ record { front = []; after = b ∷ s; whole = refl; plain = tt; stops = framing }
      | inr plain ↦
          let later = cut s in
          record { front = b ∷ later.front; after = later.after; whole = ap (λ l. b ∷ l) later.whole; plain = (plain, later.plain); stops = later.stops }
    ]

pub data_of-stopped : (s : List ℕ) → Stops s → data_of s ≡ []
data_of-stopped [] stops = refl
data_of-stopped (b ∷ s) stops = data_of-stop b s stops

pub rest_of-stopped : (s : List ℕ) → Stops s → rest_of s ≡ s
rest_of-stopped [] stops = refl
rest_of-stopped (b ∷ s) stops = rest_of-stop b s stops

pub data_of-cut : (d s : List ℕ) → Plain d → Stops s → data_of (d ++ s) ≡ d
data_of-cut d s plain stops = data_of-append d s plain ∙ ap (λ l. d ++ l) (data_of-stopped s stops) ∙ append-nil d

pub rest_of-cut : (d s : List ℕ) → Plain d → Stops s → rest_of (d ++ s) ≡ s
rest_of-cut d s plain stops = rest_of-append d s plain ∙ rest_of-stopped s stops

pub outcome_of-cut : (d s : List ℕ) → Plain d → Stops s → block_outcome (d ++ s) ≡ decision d s
outcome_of-cut d s plain stops = ap (λ l. decision l (rest_of (d ++ s))) (data_of-cut d s plain stops) ∙ ap (decision d) (rest_of-cut d s plain stops)

pub outcome_of-append : (d x : List ℕ) → Plain d → block_outcome (d ++ x) ≡ decision (d ++ data_of x) (rest_of x)
outcome_of-append d x plain = ap (λ l. decision l (rest_of (d ++ x))) (data_of-append d x plain) ∙ ap (decision (d ++ data_of x)) (rest_of-append d x plain)

-- no start byte
abbrev pub NoStart : List ℕ → Type 0
NoStart s = AllByRecursion (λ b. (b == start_block) ≡ false) s

pub NoStart-plain : (d : List ℕ) → Plain d → NoStart d
NoStart-plain [] plain = tt
NoStart-plain (b ∷ d) plain = ((or_parts (b == start_block) (b == end_block) plain.0).0, NoStart-plain d plain.1)

pub NoStart-append : (s t : List ℕ) → NoStart s → NoStart t → NoStart (s ++ t)
NoStart-append [] t one two = two
NoStart-append (b ∷ s) t one two = (one.0, NoStart-append s t one.1 two)

pub Plain-take : (n : ℕ) (d : List ℕ) → Plain d → Plain (take n d)
Plain-take zero d plain = tt
Plain-take (suc n) [] plain = tt
Plain-take (suc n) (b ∷ d) plain = (plain.0, Plain-take n d plain.1)

pub Plain-append : (s t : List ℕ) → Plain s → Plain t → Plain (s ++ t)
Plain-append [] t one two = two
Plain-append (b ∷ s) t one two = (one.0, Plain-append s t one.1 two)

pub blocks-quiet : (s x : List ℕ) → NoStart s → blocks (s ++ x) ≡ blocks x
blocks-quiet [] x quiet = refl
blocks-quiet (b ∷ s) x quiet = rw (quiet.0) (blocks-quiet s x quiet.1)

pub open_end-quiet : (s x : List ℕ) → NoStart s → open_end (s ++ x) ≡ open_end x
open_end-quiet [] x quiet = refl
open_end-quiet (b ∷ s) x quiet = rw (quiet.0) (open_end-quiet s x quiet.1)
