-- Two pieces of a text with a separator between them are one run of it.
use Rattle.std.proofs.Common.{◌≡◌, ℕ, suc, ◌+◌, ◌-◌, ◌<◌, ◌≤◌, List, [], ◌∷◌, ◌++◌, length, take, drop, get_or, slice_range, sym, ap, ◌∙◌, arith}
use Rattle.std.proofs.Math.Seq.{drop-cons}
use Rattle.std.proofs.lemmas.List.{append-nil, take-append-drop}
use Rattle.er7_tree.specs.declared.segments.Span.{Span}
use Rattle.er7_tree.specs.inner.Spans.{covered, IsBetween}
use Rattle.hl7_head.specs.Ack.{fields_text}
use Rattle.hl7_head.proofs.Cutting.{range_front, range_back}

-- a range begins with its first byte
first_byte : (text : List ℕ) (b e s : ℕ) → b < e → e ≤ length text → get_or text b 0 ≡ s → slice_range text b e ≡ s ∷ slice_range text (b + 1) e
first_byte text b e s short within at =
    let width : e - b ≡ suc (e - (b + 1)) = omega arith in
    let next : suc b ≡ b + 1 = omega arith in
    let some : drop b text ≡ get_or text b 0 ∷ drop (suc b) text = drop-cons text b 0 (omega arith) in
    ap (λ k. take k (drop b text)) width
    ∙ ap (take (suc (e - (b + 1)))) some
    ∙ ap (λ x. x ∷ take (e - (b + 1)) (drop (suc b) text)) at
    ∙ ap (λ k. s ∷ take (e - (b + 1)) (drop k text)) next

run_is : (text : List ℕ) (a b e s : ℕ) → a ≤ b → b < e → e ≤ length text → get_or text b 0 ≡ s
    → slice_range text a e ≡ slice_range text a b ++ s ∷ slice_range text (b + 1) e
run_is text a b e s behind short within at =
    let place : a + (b - a) ≡ b = omega arith in
    let front : take (b - a) (slice_range text a e) ≡ slice_range text a b = range_front text a (b - a) e (omega arith) ∙ ap (λ k. slice_range text a k) place in
    let back : drop (b - a) (slice_range text a e) ≡ slice_range text b e = range_back text a (b - a) e (omega arith) ∙ ap (λ k. slice_range text k e) place in
    sym (take-append-drop (b - a) (slice_range text a e))
    ∙ ap (λ l. l ++ drop (b - a) (slice_range text a e)) front
    ∙ ap (λ l. slice_range text a b ++ l) (back ∙ first_byte text b e s short within at)

-- so the run, appended after a separator, is the two fields
pub one_run : (text : List ℕ) (first second : Span) (s : ℕ) → IsBetween 0 (length text) first → IsBetween 0 (length text) second
    → second.start ≡ first.end + 1 → get_or text first.end 0 ≡ s
    → s ∷ slice_range text first.start second.end ≡ fields_text s (covered text first ∷ covered text second ∷ [])
one_run text first second s low high next at =
    let run = run_is text first.start first.end second.end s low.ordered (omega (arith, next, high.ordered)) high.within at in
    ap (λ l. s ∷ l)
    (run
    ∙ ap (λ k. covered text first ++ s ∷ slice_range text k second.end) (sym next)
    ∙ ap (λ l. covered text first ++ s ∷ l) (sym (append-nil (covered text second))))
