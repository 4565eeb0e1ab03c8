-- How long an open end is.
use Rattle.std.proofs.Common.{◌≡◌, ℕ, ◌+◌, ◌≤◌, ◌==◌, List, [], ◌∷◌, length, inl, inr, None, sym, subst, arith, length-append, length-take}
use Rattle.std.proofs.lemmas.Bool.{cases_Bool}
use Rattle.mllp_frame.specs.Framing.{start_block, carriage_return, data_max, block_outcome, decision, rest_of, data_of}
use Rattle.mllp_frame.specs.inner.Framing.{shortened, least_too_long, unfinished, open_end}
use Rattle.mllp_frame.proofs.Appending.{least_too_long_is, option_cases, open_end-other, open_end-open, open_end-closed}

decision-short : (d r : List ℕ) → decision d r ≡ None → length r ≤ 1
decision-short d [] is = omega arith
decision-short d (b ∷ []) is = omega arith
decision-short d (b ∷ c ∷ r) is =
    elim (cases_Bool (b == start_block)) as (λ _. length (b ∷ c ∷ r) ≤ 1) [
      | inl start ↦ let known = rw start at is in cc
      | inr other ↦
          elim (cases_Bool (c == carriage_return)) as (λ _. length (b ∷ c ∷ r) ≤ 1) [
            | inl ends ↦ let known = rw (other, ends) at is in cc
            | inr bad ↦ let known = rw (other, bad) at is in cc
          ]
    ]

unfinished-short : (s : List ℕ) → block_outcome s ≡ None → length (unfinished s) ≤ data_max + 2
unfinished-short s is =
    let limit = least_too_long_is in
    let few : length (rest_of s) ≤ 1 = decision-short (data_of s) (rest_of s) is in
    omega (arith, length-append (shortened (data_of s)) (rest_of s), length-take least_too_long (data_of s))

pub open_end-short : (s : List ℕ) → length (open_end s) ≤ data_max + 3
open_end-short [] = omega arith
open_end-short (b ∷ s) =
    let later : length (open_end s) ≤ data_max + 3 = open_end-short s in
    elim (cases_Bool (b == start_block)) as (λ _. length (open_end (b ∷ s)) ≤ data_max + 3) [
      | inr other ↦ subst (λ l. length l ≤ data_max + 3) (sym (open_end-other b s other)) later
      | inl start ↦
          elim (option_cases (block_outcome s)) as (λ _. length (open_end (b ∷ s)) ≤ data_max + 3) [
            | inr found ↦ subst (λ l. length l ≤ data_max + 3) (sym (open_end-closed b s found.0 found.1)) later
            | inl is ↦
                let short : length (unfinished s) ≤ data_max + 2 = unfinished-short s is in
                let long : length (b ∷ unfinished s) ≤ data_max + 3 = omega arith in
                subst (λ l. length l ≤ data_max + 3) (sym (open_end-open b s start is)) long
          ]
    ]
