-- A piece of one byte ends at most one block.
use Rattle.std.proofs.Common.{◌≡◌, ℕ, ◌+◌, ◌≤◌, ◌==◌, List, [], ◌∷◌, ◌++◌, length, Option, None, Some, inl, inr, ap, ◌∙◌, option_to_list, arith, length-append}
use Rattle.std.proofs.lemmas.Bool.{cases_Bool}
use Rattle.mllp_frame.specs.Event.{FramingEvent}
use Rattle.mllp_frame.specs.Framing.{start_block, blocks, block_outcome}
use Rattle.mllp_frame.specs.inner.Framing.{open_end}
use Rattle.mllp_frame.proofs.Cuts.{blocks-quiet}
use Rattle.mllp_frame.proofs.Appending.{blocks-append, blocks-decided, blocks-other, blocks-start, goes_on, option_cases, outcome_of-more}

one_at_most : (o : Option FramingEvent) → length (option_to_list o) ≤ 1
one_at_most None = omega arith
one_at_most (Some e) = omega arith

single : (b : ℕ) → blocks (b ∷ []) ≡ []
single b = elim (cases_Bool (b == start_block)) as (λ _. blocks (b ∷ []) ≡ []) [ inl start ↦ blocks-start b [] start | inr other ↦ blocks-other b [] other ]

-- one byte more brings one event more at most
pub one_byte-event : (s : List ℕ) (b : ℕ) → length (blocks (s ++ b ∷ [])) ≤ length (blocks s) + 1
one_byte-event [] b = let none = ap length (single b) in omega arith
one_byte-event (x ∷ s) b =
    let later : length (blocks (s ++ b ∷ [])) ≤ length (blocks s) + 1 = one_byte-event s b in
    elim (cases_Bool (x == start_block)) as (λ _. length (blocks (x ∷ (s ++ b ∷ []))) ≤ length (blocks (x ∷ s)) + 1) [
      | inr other ↦ omega (arith, later, ap length (blocks-other x (s ++ b ∷ []) other), ap length (blocks-other x s other))
      | inl start ↦
          elim (option_cases (block_outcome s)) as (λ _. length (blocks (x ∷ (s ++ b ∷ []))) ≤ length (blocks (x ∷ s)) + 1) [
            | inr found ↦
                omega (
                  arith,
                  later,
                  ap length (blocks-decided x (s ++ b ∷ []) found.0 start (outcome_of-more s (b ∷ []) found.0 found.1)),
                  ap length (blocks-decided x s found.0 start found.1),
                )
            | inl is ↦
                let quiet = (goes_on s is).quiet in
                let none : blocks (s ++ b ∷ []) ≡ [] = blocks-quiet s (b ∷ []) quiet ∙ single b in
                let parts : length (blocks (x ∷ (s ++ b ∷ []))) ≡ length (option_to_list (block_outcome (s ++ b ∷ []))) + length (blocks (s ++ b ∷ [])) =
                ap length (blocks-start x (s ++ b ∷ []) start) ∙ length-append (option_to_list (block_outcome (s ++ b ∷ []))) (blocks (s ++ b ∷ [])) in
                let few : length (option_to_list (block_outcome (s ++ b ∷ []))) ≤ 1 = one_at_most (block_outcome (s ++ b ∷ [])) in
                omega (arith, parts, few, ap length none)
          ]
    ]

pub one_byte-piece : (s : List ℕ) (b : ℕ) → length (blocks (open_end s ++ b ∷ [])) ≤ 1
one_byte-piece s b =
    let parts : length (blocks (s ++ b ∷ [])) ≡ length (blocks s) + length (blocks (open_end s ++ b ∷ [])) =
    ap length (blocks-append s (b ∷ [])) ∙ length-append (blocks s) (blocks (open_end s ++ b ∷ [])) in
    omega (arith, parts, one_byte-event s b)
