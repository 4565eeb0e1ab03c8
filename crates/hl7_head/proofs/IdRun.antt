-- The control id of an acknowledgment and the separator before it, written into a run from its end.
use Rattle.std.proofs.Common.{◌≡◌, ℕ, ◌+◌, ◌-◌, ◌≤◌, List, [], ◌∷◌, ◌++◌, length, drop, set, decimal, append_assoc, sym, ap, ◌∙◌, arith}
use Rattle.std.proofs.lemmas.List.{append-nil, drop_all, drop-set}
use Rattle.hl7_head.specs.Ack.{reply_id}

pub id_run : (connection number separator first second : ℕ) (empty numbered both : List ℕ)
    → length empty ≤ 22 → 1 ≤ first → first ≤ length numbered → 1 ≤ second → second ≤ length both
    → drop first numbered ≡ decimal number ++ drop 22 empty
    → drop second both ≡ decimal connection ++ drop (first - 1) (set numbered (first - 1) 46)
    → drop (second - 1) (set both (second - 1) separator) ≡ separator ∷ reply_id connection number
id_run connection number separator first second empty numbered both few low in_numbered high in_both digits more =
    let first_next : first - 1 + 1 ≡ first = omega arith in
    let second_next : second - 1 + 1 ≡ second = omega arith in
    let only : drop first numbered ≡ decimal number = digits ∙ ap (λ l. decimal number ++ l) (drop_all 22 empty few) ∙ append-nil (decimal number) in
    let point : drop (first - 1) (set numbered (first - 1) 46) ≡ 46 ∷ decimal number =
    drop-set numbered (first - 1) 46 (omega arith) ∙ ap (λ k. 46 ∷ drop k numbered) first_next ∙ ap (λ l. 46 ∷ l) only in
    let whole : drop second both ≡ decimal connection ++ 46 ∷ decimal number = more ∙ ap (λ l. decimal connection ++ l) point in
    drop-set both (second - 1) separator (omega arith)
    ∙ ap (λ k. separator ∷ drop k both) second_next
    ∙ ap (λ l. separator ∷ l) (whole ∙ sym (append_assoc (decimal connection) (46 ∷ []) (decimal number)))
