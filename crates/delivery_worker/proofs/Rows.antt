-- Worked answers to a message with control id 7.
use Rattle.std.proofs.Common.{◌≡◌, List, ℕ, [], ◌∷◌, ◌++◌, Option, Some, None, refl, codes, replicate}
use Rattle.dest_queue.specs.declared.Outcome.{Outcome}
use Rattle.dest_queue.specs.declared.Outcome.TheVariants.{Delivered, Again, Rejected}
use Rattle.hl7_head.specs.Msa.{MsaFields}
use Rattle.delivery_worker.specs.Answers.{outcome_of}

abbrev answer : List ℕ → List ℕ → Option MsaFields
answer code control_id = Some (record { code = code; control_id = control_id; text = [] })

abbrev outcome : List (Option MsaFields) → Outcome
outcome answers = outcome_of (codes "7") answers

no_answer : outcome [] ≡ Again
no_answer = refl

an_error : outcome (None ∷ answer (codes "AA") (codes "8") ∷ answer (codes "CE") (codes "7") ∷ []) ≡ Again
an_error = refl

a_rejection : outcome (answer (codes "AR") (codes "7") ∷ []) ≡ Rejected
a_rejection = refl

first_decides : outcome (answer (codes "CA") (codes "7") ∷ answer (codes "AR") (codes "7") ∷ []) ≡ Delivered
first_decides = refl

unknown_code : outcome (answer (codes "XX") (codes "7") ∷ []) ≡ Again
unknown_code = refl

the_ninth_answers : outcome (replicate 8 (answer (codes "AA") (codes "8")) ++ answer (codes "AA") (codes "7") ∷ []) ≡ Delivered
the_ninth_answers = refl

the_tenth_is_not_read : outcome (replicate 9 (answer (codes "AA") (codes "8")) ++ answer (codes "AA") (codes "7") ∷ []) ≡ Again
the_tenth_is_not_read = refl
