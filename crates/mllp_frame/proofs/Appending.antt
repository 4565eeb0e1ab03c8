-- What more bytes do to a byte string's blocks and to its open end.
use Rattle.std.proofs.Common.{◌≡◌, ℕ, ◌+◌, ◌≤◌, true, false, cond, ◌==◌, nat_le, List, [], ◌∷◌, ◌++◌, length, take, Option, Some, None, option_to_list, ◌⊎◌, inl, inr, refl, sym, ap, ◌∙◌, subst, arith, append_assoc, append-nil, length-append, length-take}
use Rattle.std.proofs.lemmas.Bool.{cond-false, cases_Bool, cases_lt, lt-leb}
use Rattle.std.proofs.lemmas.List.{take_all, take-append-le, take-take}
use Rattle.mllp_frame.specs.declared.Break.TheVariants.{NewStart, BadEnd}
use Rattle.mllp_frame.specs.Event.{FramingEvent, broken}
use Rattle.mllp_frame.specs.Framing.{start_block, carriage_return, data_max, data_of, rest_of, ended_block, decision, block_outcome, blocks}
use Rattle.mllp_frame.specs.inner.Framing.{shortened, least_too_long, unfinished, open_end}
use Rattle.mllp_frame.proofs.Cuts.{Plain, Stops, cut, data_of-append, rest_of-append, outcome_of-cut, outcome_of-append, NoStart, NoStart-plain, NoStart-append, Plain-take, blocks-quiet, open_end-quiet, data_of-cut, rest_of-cut}

-- what has decided a block isn't undone by more bytes
decision-more : (d r p : List ℕ) (e : FramingEvent) → decision d r ≡ Some e → decision d (r ++ p) ≡ Some e
decision-more d [] p e is = cc
decision-more d (b ∷ []) [] e is = is
decision-more d (b ∷ []) (c ∷ p) e is =
    elim (cases_Bool (b == start_block)) as (λ _. decision d (b ∷ c ∷ p) ≡ Some e) [
      | inl start ↦ let known = rw start at is in rw start known
      | inr other ↦ let known = rw other at is in cc
    ]
decision-more d (b ∷ c ∷ r) p e is = is

Stops-more : (r p : List ℕ) (d : List ℕ) (e : FramingEvent) → Stops r → decision d r ≡ Some e → Stops (r ++ p)
Stops-more [] p d e stops is = cc
Stops-more (b ∷ r) p d e stops is = stops

pub outcome_of-more : (s p : List ℕ) (e : FramingEvent) → block_outcome s ≡ Some e → block_outcome (s ++ p) ≡ Some e
outcome_of-more s p e is =
    let parts = cut s in
    let at : decision parts.front parts.after ≡ Some e = sym (outcome_of-cut parts.front parts.after parts.plain parts.stops) ∙ sym (ap block_outcome parts.whole) ∙ is in
    ap (λ l. block_outcome (l ++ p)) parts.whole
    ∙ ap block_outcome (append_assoc parts.front parts.after p)
    ∙ outcome_of-cut parts.front (parts.after ++ p) parts.plain (Stops-more parts.after p parts.front e parts.stops at)
    ∙ decision-more parts.front parts.after p e at

decision-none : (d r : List ℕ) → decision d r ≡ None → NoStart r
decision-none d [] is = tt
decision-none d (b ∷ []) is =
    elim (cases_Bool (b == start_block)) as (λ _. NoStart (b ∷ [])) [
      | inl start ↦ let known = rw start at is in cc
      | inr other ↦ (other, tt)
    ]
decision-none d (b ∷ c ∷ r) is =
    elim (cases_Bool (b == start_block)) as (λ _. NoStart (b ∷ c ∷ r)) [
      | inl start ↦ let known = rw start at is in cc
      | inr other ↦
          elim (cases_Bool (c == carriage_return)) as (λ _. NoStart (b ∷ c ∷ r)) [
            | inl ends ↦ let known = rw (other, ends) at is in cc
            | inr bad ↦ let known = rw (other, bad) at is in cc
          ]
    ]

pub least_too_long_is : least_too_long ≡ data_max + 1
unfolding least_too_long
least_too_long_is = refl

-- the front of a list in two steps
take_front : (m : ℕ) (d y : List ℕ) → take m (d ++ y) ≡ take m (take m d ++ y)
take_front m d y =
    elim (cases_lt (length d) m) as (λ _. take m (d ++ y) ≡ take m (take m d ++ y)) [
      | inl short ↦ ap (λ l. take m (l ++ y)) (sym (take_all m d (omega arith)))
      | inr long ↦
          let size : m ≤ length (take m d) = omega (arith, length-take m d) in
          take-append-le m d y long ∙ sym (take-take m m d (omega arith)) ∙ sym (take-append-le m (take m d) y size)
    ]

-- of data past the limit, the part that is kept decides as all of it does
shortened-append : (d y : List ℕ) → shortened (d ++ y) ≡ shortened (shortened d ++ y)
shortened-append d y = take_front least_too_long d y

ended_block-shortened : (d y : List ℕ) → ended_block (d ++ y) ≡ ended_block (shortened d ++ y)
ended_block-shortened d y =
    let limit = least_too_long_is in
    elim (cases_lt (length d) least_too_long) as (λ _. ended_block (d ++ y) ≡ ended_block (shortened d ++ y)) [
      | inl short ↦ ap (λ l. ended_block (l ++ y)) (sym (take_all least_too_long d (omega arith)))
      | inr long ↦
          let one : nat_le (length (d ++ y)) data_max ≡ false = lt-leb _ _ (omega (arith, length-append d y)) in
          let two : nat_le (length (shortened d ++ y)) data_max ≡ false = lt-leb _ _ (omega (arith, length-append (shortened d) y, length-take least_too_long d)) in
          cond-false _ _ _ one ∙ sym (cond-false _ _ _ two)
    ]

decision-shortened : (d y r : List ℕ) → decision (d ++ y) r ≡ decision (shortened d ++ y) r
decision-shortened d y [] = refl
decision-shortened d y (b ∷ []) = refl
decision-shortened d y (b ∷ c ∷ r) =
    ap (λ e. cond (b == start_block) (Some (broken NewStart)) (cond (c == carriage_return) (Some e) (Some (broken BadEnd)))) (ended_block-shortened d y)

pub outcome_of-shortened : (d x : List ℕ) → Plain d → block_outcome (d ++ x) ≡ block_outcome (shortened d ++ x)
outcome_of-shortened d x plain =
    outcome_of-append d x plain ∙ decision-shortened d (data_of x) (rest_of x) ∙ sym (outcome_of-append (shortened d) x (Plain-take least_too_long d plain))

pub unfinished-shortened : (d x : List ℕ) → Plain d → unfinished (d ++ x) ≡ unfinished (shortened d ++ x)
unfinished-shortened d x plain =
    let few = Plain-take least_too_long d plain in
    rw (data_of-append d x plain, rest_of-append d x plain, data_of-append (shortened d) x few, rest_of-append (shortened d) x few) (ap (λ l. l ++ rest_of x) (shortened-append d (data_of x)))

-- What is kept of an open block goes on as the block does: it holds no start byte, and each byte that follows
-- decides of one what it decides of the other.
pub record GoesOn (s k : List ℕ) : Type 0 where
  pub quiet : NoStart s
  pub quiet_too : NoStart k
  pub decides : (p : List ℕ) → block_outcome (s ++ p) ≡ block_outcome (k ++ p)
  pub holds : (p : List ℕ) → unfinished (s ++ p) ≡ unfinished (k ++ p)

goes_on_at : (d r : List ℕ) → Plain d → NoStart r → GoesOn (d ++ r) (shortened d ++ r)
goes_on_at d r plain quiet = record {
  quiet = NoStart-append d r (NoStart-plain d plain) quiet;
  quiet_too = NoStart-append (shortened d) r (NoStart-plain (shortened d) (Plain-take least_too_long d plain)) quiet;
  decides = λ p. ap block_outcome (append_assoc d r p) ∙ outcome_of-shortened d (r ++ p) plain ∙ sym (ap block_outcome (append_assoc (shortened d) r p));
  holds = λ p. ap unfinished (append_assoc d r p) ∙ unfinished-shortened d (r ++ p) plain ∙ sym (ap unfinished (append_assoc (shortened d) r p));
}

pub goes_on_plain : (d : List ℕ) → Plain d → GoesOn d (shortened d)
goes_on_plain d plain = record {
  quiet = NoStart-plain d plain;
  quiet_too = NoStart-plain (shortened d) (Plain-take least_too_long d plain);
  decides = λ p. outcome_of-shortened d p plain;
  holds = λ p. unfinished-shortened d p plain;
}

pub unfinished-cut : (d r : List ℕ) → Plain d → Stops r → unfinished (d ++ r) ≡ shortened d ++ r
unfinished-cut d r plain stops = ap (λ l. shortened l ++ rest_of (d ++ r)) (data_of-cut d r plain stops) ∙ ap (λ l. shortened d ++ l) (rest_of-cut d r plain stops)

pub goes_on : (s : List ℕ) → block_outcome s ≡ None → GoesOn s (unfinished s)
goes_on s is =
    let parts = cut s in
    let at : decision parts.front parts.after ≡ None = sym (outcome_of-cut parts.front parts.after parts.plain parts.stops) ∙ sym (ap block_outcome parts.whole) ∙ is in
    let quiet : NoStart parts.after = decision-none parts.front parts.after at in
    let here : GoesOn (parts.front ++ parts.after) (unfinished (parts.front ++ parts.after)) =
    subst (λ k. GoesOn (parts.front ++ parts.after) k) (sym (unfinished-cut parts.front parts.after parts.plain parts.stops)) (goes_on_at parts.front parts.after parts.plain quiet) in
    subst (λ l. GoesOn l (unfinished l)) (sym parts.whole) here

-- ---- one byte at the front of a byte string

pub blocks-other : (b : ℕ) (s : List ℕ) → (b == start_block) ≡ false → blocks (b ∷ s) ≡ blocks s
blocks-other b s other = rw other

pub blocks-start : (b : ℕ) (s : List ℕ) → (b == start_block) ≡ true → blocks (b ∷ s) ≡ option_to_list (block_outcome s) ++ blocks s
blocks-start b s start = rw start

pub open_end-other : (b : ℕ) (s : List ℕ) → (b == start_block) ≡ false → open_end (b ∷ s) ≡ open_end s
open_end-other b s other = rw other

pub open_end-open : (b : ℕ) (s : List ℕ) → (b == start_block) ≡ true → block_outcome s ≡ None → open_end (b ∷ s) ≡ b ∷ unfinished s
open_end-open b s start is = rw (start, is)

pub open_end-closed : (b : ℕ) (s : List ℕ) (e : FramingEvent) → block_outcome s ≡ Some e → open_end (b ∷ s) ≡ open_end s
open_end-closed b s e is =
    elim (cases_Bool (b == start_block)) as (λ _. open_end (b ∷ s) ≡ open_end s) [
      | inl start ↦ rw (start, is)
      | inr other ↦ rw other
    ]

pub blocks-decided : (b : ℕ) (s : List ℕ) (e : FramingEvent) → (b == start_block) ≡ true → block_outcome s ≡ Some e → blocks (b ∷ s) ≡ e ∷ blocks s
blocks-decided b s e start is = blocks-start b s start ∙ ap (λ o. option_to_list o ++ blocks s) is

pub blocks-open : (b : ℕ) (s : List ℕ) → (b == start_block) ≡ true → block_outcome s ≡ None → blocks (b ∷ s) ≡ blocks s
blocks-open b s start is = blocks-start b s start ∙ ap (λ o. option_to_list o ++ blocks s) is

pub blocks-none : (s : List ℕ) → NoStart s → blocks s ≡ []
blocks-none s quiet = sym (ap blocks (append-nil s)) ∙ blocks-quiet s [] quiet

pub open_end-none : (s : List ℕ) → NoStart s → open_end s ≡ []
open_end-none s quiet = sym (ap open_end (append-nil s)) ∙ open_end-quiet s [] quiet

pub option_cases : {A : Type 0} (o : Option A) → (o ≡ None) ⊎ ((x : A) × (o ≡ Some x))
option_cases None = inl refl
option_cases (Some x) = inr (x, refl)

-- ---- the laws

-- a start byte whose block is open, and what follows
pub blocks-resumed : (b : ℕ) (s k p : List ℕ) → (b == start_block) ≡ true → GoesOn s k → blocks (b ∷ (s ++ p)) ≡ blocks (b ∷ (k ++ p))
blocks-resumed b s k p start same =
    blocks-start b (s ++ p) start
    ∙ ap (λ o. option_to_list o ++ blocks (s ++ p)) (same.decides p)
    ∙ ap (λ l. option_to_list (block_outcome (k ++ p)) ++ l) (blocks-quiet s p same.quiet ∙ sym (blocks-quiet k p same.quiet_too))
    ∙ sym (blocks-start b (k ++ p) start)

-- the blocks of a string and of what follows it: those of the string, and then those of its open end with what follows
pub blocks-append : (s p : List ℕ) → blocks (s ++ p) ≡ blocks s ++ blocks (open_end s ++ p)
blocks-append [] p = refl
blocks-append (b ∷ s) p =
    let Goal : Type 0 = blocks (b ∷ (s ++ p)) ≡ blocks (b ∷ s) ++ blocks (open_end (b ∷ s) ++ p) in
    let later : blocks (s ++ p) ≡ blocks s ++ blocks (open_end s ++ p) = blocks-append s p in
    elim (cases_Bool (b == start_block)) as (λ _. Goal) [
      | inr other ↦
          blocks-other b (s ++ p) other ∙ later
          ∙ ap (λ l. l ++ blocks (open_end s ++ p)) (sym (blocks-other b s other))
          ∙ ap (λ l. blocks (b ∷ s) ++ blocks (l ++ p)) (sym (open_end-other b s other))
      | inl start ↦
          elim (option_cases (block_outcome s)) as (λ _. Goal) [
            | inr found ↦
                blocks-decided b (s ++ p) found.0 start (outcome_of-more s p found.0 found.1)
                ∙ ap (λ l. found.0 ∷ l) later
                ∙ ap (λ l. l ++ blocks (open_end s ++ p)) (sym (blocks-decided b s found.0 start found.1))
                ∙ ap (λ l. blocks (b ∷ s) ++ blocks (l ++ p)) (sym (open_end-closed b s found.0 found.1))
            | inl is ↦
                let same = goes_on s is in
                blocks-resumed b s (unfinished s) p start same
                ∙ ap (λ l. l ++ blocks (b ∷ (unfinished s ++ p))) (sym (blocks-open b s start is ∙ blocks-none s same.quiet))
                ∙ ap (λ l. blocks (b ∷ s) ++ blocks (l ++ p)) (sym (open_end-open b s start is))
          ]
    ]

pub open_end-resumed : (b : ℕ) (s k p : List ℕ) → (b == start_block) ≡ true → GoesOn s k → open_end (b ∷ (s ++ p)) ≡ open_end (b ∷ (k ++ p))
open_end-resumed b s k p start same =
    elim (option_cases (block_outcome (s ++ p))) as (λ _. open_end (b ∷ (s ++ p)) ≡ open_end (b ∷ (k ++ p))) [
      | inr found ↦
          open_end-closed b (s ++ p) found.0 found.1 ∙ open_end-quiet s p same.quiet
          ∙ sym (open_end-quiet k p same.quiet_too) ∙ sym (open_end-closed b (k ++ p) found.0 (sym (same.decides p) ∙ found.1))
      | inl is ↦
          open_end-open b (s ++ p) start is ∙ ap (λ l. b ∷ l) (same.holds p)
          ∙ sym (open_end-open b (k ++ p) start (sym (same.decides p) ∙ is))
    ]

-- the open end of a string and of what follows it: that of its open end with what follows
pub open_end-append : (s p : List ℕ) → open_end (s ++ p) ≡ open_end (open_end s ++ p)
open_end-append [] p = refl
open_end-append (b ∷ s) p =
    let Goal : Type 0 = open_end (b ∷ (s ++ p)) ≡ open_end (open_end (b ∷ s) ++ p) in
    let later : open_end (s ++ p) ≡ open_end (open_end s ++ p) = open_end-append s p in
    elim (cases_Bool (b == start_block)) as (λ _. Goal) [
      | inr other ↦ open_end-other b (s ++ p) other ∙ later ∙ ap (λ l. open_end (l ++ p)) (sym (open_end-other b s other))
      | inl start ↦
          elim (option_cases (block_outcome s)) as (λ _. Goal) [
            | inr found ↦
                open_end-closed b (s ++ p) found.0 (outcome_of-more s p found.0 found.1) ∙ later
                ∙ ap (λ l. open_end (l ++ p)) (sym (open_end-closed b s found.0 found.1))
            | inl is ↦
                open_end-resumed b s (unfinished s) p start (goes_on s is)
                ∙ ap (λ l. open_end (l ++ p)) (sym (open_end-open b s start is))
          ]
    ]
