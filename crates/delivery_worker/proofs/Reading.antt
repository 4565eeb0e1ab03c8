-- The answers that are read are the first ones.
use Rattle.std.proofs.Common.{◌≡◌, ◌∙◌, ◌++◌, ℕ, List, [], ◌∷◌, arith, length-append, Option, None, Some, true, false, cond, length, take, min, find, refl, ap}
use Rattle.std.specs.List.{flat_map}
use Rattle.std.specs.Option.{option_map, option_map_or, option_to_list}
use Rattle.std.proofs.lemmas.List.{nil_from_length, take_min}
use Rattle.dest_queue.specs.declared.Outcome.{Outcome}
use Rattle.dest_queue.specs.declared.Outcome.TheVariants.{Again}
use Rattle.hl7_head.specs.Msa.{MsaFields}
use Rattle.delivery_worker.specs.declared.connection.Taken.{Taken}
use Rattle.delivery_worker.specs.declared.connection.Taken.TheVariants as taken
use Rattle.delivery_worker.specs.Answers.{answers_to, code_outcome, outcome_of}
use Rattle.delivery_worker.specs.inner.Answers.{code_for}

-- what was found among the answers that were read decides
pub decided : (control_id : List ℕ) (answers : List (Option MsaFields)) (count : ℕ) (found : Option MsaFields) → count ≡ min 9 (length answers)
    → found ≡ find (answers_to control_id) (flat_map option_to_list (take count answers))
    → option_map_or (λ msa. code_outcome msa.code) found Again ≡ outcome_of control_id answers
decided control_id answers count found few is =
    rw (is, few, take_min 9 answers) refl

-- a code decides as its acknowledgment does
code_decides : (found : Option MsaFields)
    → option_map_or code_outcome (option_map (λ (msa : MsaFields). msa.code) found) Again ≡ option_map_or (λ msa. code_outcome msa.code) found Again
code_decides None = refl
code_decides (Some msa) = refl

-- and so does the code of what was found among the answers that were read
pub decided_by : (control_id : List ℕ) (answers : List (Option MsaFields)) (count : ℕ) (code : Option (List ℕ)) → count ≡ min 9 (length answers)
    → code ≡ option_map (λ (msa : MsaFields). msa.code) (find (answers_to control_id) (flat_map option_to_list (take count answers)))
    → option_map_or code_outcome code Again ≡ outcome_of control_id answers
decided_by control_id answers count code few is =
    ap (λ o. option_map_or code_outcome o Again) is
    ∙ code_decides (find (answers_to control_id) (flat_map option_to_list (take count answers)))
    ∙ decided control_id answers count (find (answers_to control_id) (flat_map option_to_list (take count answers))) few refl

-- the one answer that was read decides by its code
one_answer : (control_id : List ℕ) (answer : Option MsaFields)
    → option_map_or (λ (o : Outcome). o) (option_map code_outcome (code_for control_id answer)) Again ≡ outcome_of control_id (answer ∷ [])
one_answer control_id None = refl
one_answer control_id (Some msa) =
    elim (answers_to control_id msa) as (λ b. option_map_or (λ (o : Outcome). o) (option_map code_outcome (cond b (Some msa.code) None)) Again
    ≡ option_map_or (λ (m : MsaFields). code_outcome m.code) (cond b (Some msa) None) Again) [ true ↦ refl | false ↦ refl ]

-- so what it decides is the outcome
pub first_decides : (control_id : List ℕ) (answer : Option MsaFields) (outcome : Outcome) → Some outcome ≡ option_map code_outcome (code_for control_id answer)
    → outcome ≡ outcome_of control_id (answer ∷ [])
first_decides control_id answer outcome is = ap (λ o. option_map_or (λ (x : Outcome). x) o Again) is ∙ one_answer control_id answer

-- a list that one more was added to, and that has one, has that alone
pub one_item : (mid has : List (Option MsaFields)) (answer : Option MsaFields) → has ≡ mid ++ answer ∷ [] → length has ≡ 1 → has ≡ answer ∷ []
one_item mid has answer is one =
    let grown : length has ≡ length (mid ++ answer ∷ []) = ap length is in
    let empty : mid ≡ [] = nil_from_length mid (omega (arith, one, grown, length-append mid (answer ∷ []))) in
    is ∙ ap (λ (m : List (Option MsaFields)). m ++ answer ∷ []) empty

-- what the first answer decides, where it decides
abbrev pub outcome_in : Taken → Outcome
outcome_in (taken.First decision) = decision.outcome
outcome_in taken.All = Again
outcome_in taken.Enough = Again
