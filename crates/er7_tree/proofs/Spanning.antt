-- Spans that follow one another.
use Rattle.std.proofs.Common.{◌≡◌, ℕ, zero, suc, ◌+◌, ◌-◌, ◌<◌, ◌≤◌, Bool, List, [], ◌∷◌, ◌++◌, length, get_or, take, drop, map, refl, sym, ap, ◌∙◌, arith, append_assoc, add-one, drop-cons, inl, inr, length-append, length-drop}
use Rattle.std.proofs.lemmas.Bool.{cases_Bool}
use Rattle.std.proofs.lemmas.List.{drop-append-le, take-append-le, take_all}
use Rattle.std.proofs.Math.Seq.{drop-append_seam}
use Rattle.std.proofs.lemmas.List.Folds.{drop_split}
use Rattle.std.specs.List.{filter, flat_map}
use Rattle.er7_tree.specs.declared.segments.Span.{Span}
use Rattle.er7_tree.specs.inner.Spans.{covered, IsBetween, InOrder}
use Rattle.er7_tree.specs.Tree.{ended}

-- each stands between the two places
pub span_at : (from to : ℕ) (spans : List Span) (k : ℕ) (d : Span) → InOrder from to spans → k < length spans → IsBetween from to (get_or spans k d)
span_at from to [] k d in_order below = absurd (omega arith)
span_at from to (span ∷ spans) zero d in_order below = in_order.0
span_at from to (span ∷ spans) (suc k) d in_order below =
    let later = span_at span.end to spans k d in_order.1 (omega arith) in
    let first = in_order.0 in
    record { behind = omega arith; ordered = omega arith; within = omega arith }

-- a wider place
pub in_order_to : (from at to : ℕ) (spans : List Span) → InOrder from at spans → at ≤ to → InOrder from to spans
in_order_to from at to [] in_order wider = omega arith
in_order_to from at to (span ∷ spans) in_order wider =
    let first = in_order.0 in
    (record { behind = omega arith; ordered = omega arith; within = omega arith }, in_order_to span.end at to spans in_order.1 wider)

-- where the first place is not behind the last
pub ends_behind : (from to : ℕ) (spans : List Span) → InOrder from to spans → from ≤ to
ends_behind from to [] in_order = in_order
ends_behind from to (span ∷ spans) in_order = let first = in_order.0 in let rest = ends_behind span.end to spans in_order.1 in omega arith

-- an earlier place
pub in_order_from : (from at to : ℕ) (spans : List Span) → from ≤ at → InOrder at to spans → InOrder from to spans
in_order_from from at to [] earlier in_order = omega arith
in_order_from from at to (span ∷ spans) earlier in_order =
    let first = in_order.0 in (record { behind = omega arith; ordered = omega arith; within = omega arith }, in_order.1)

-- one more
pub in_order_push : (from at to : ℕ) (spans : List Span) (span : Span) → InOrder from at spans → IsBetween at to span → InOrder from span.end (spans ++ span ∷ [])
in_order_push from at to [] span in_order next = (record { behind = omega arith; ordered = omega arith; within = omega arith }, omega arith)
in_order_push from at to (first ∷ spans) span in_order next =
    let here = in_order.0 in
    (record { behind = omega arith; ordered = omega arith; within = omega arith }, in_order_push first.end at to spans span in_order.1 next)

-- what is added to a text is in no span of it
covered_one : (text more : List ℕ) (span : Span) → IsBetween 0 (length text) span → covered (text ++ more) span ≡ covered text span
covered_one text more span between =
    let start : span.start ≤ length text = omega arith in
    let enough : span.end - span.start ≤ length (drop span.start text) = omega (arith, length-drop span.start text) in
    ap (take (span.end - span.start)) (drop-append-le span.start text more start) ∙ take-append-le (span.end - span.start) (drop span.start text) more enough

pub covered_kept : (text more : List ℕ) (from : ℕ) (spans : List Span) → InOrder from (length text) spans → map (covered (text ++ more)) spans ≡ map (covered text) spans
covered_kept text more from [] in_order = refl
covered_kept text more from (span ∷ spans) in_order =
    let first = in_order.0 in
    let rest = ends_behind span.end (length text) spans in_order.1 in
    let one = covered_one text more span (record { behind = omega arith; ordered = omega arith; within = omega arith }) in
    ap (λ piece. piece ∷ map (covered (text ++ more)) spans) one ∙ ap (λ pieces. covered text span ∷ pieces) (covered_kept text more span.end spans in_order.1)

-- a span over what is added
pub covered_added : (text more : List ℕ) → covered (text ++ more) (record { start = length text; end = length (text ++ more) }) ≡ more
covered_added text more =
    let long : length (text ++ more) - length text ≡ length more = omega (arith, length-append text more) in
    ap (λ n. take n (drop (length text) (text ++ more))) long ∙ ap (take (length more)) (drop-append_seam text more) ∙ take_all (length more) more (omega arith)

-- spans that stay are still in order
pub in_order_filter : (p : Span → Bool) (from to : ℕ) (spans : List Span) → InOrder from to spans → InOrder from to (filter p spans)
in_order_filter p from to [] in_order = in_order
in_order_filter p from to (span ∷ spans) in_order =
    let first = in_order.0 in
    let later = in_order_filter p span.end to spans in_order.1 in
    elim (cases_Bool (p span)) [
      | inl stays ↦ rw stays (first, later)
      | inr goes ↦ rw goes (in_order_from from span.end to (filter p spans) (omega arith) later)
    ]

-- a segment that a carriage return follows is printed as it stands, where the segments behind it are
pub printed_from : (text : List ℕ) (spans : List Span) (i at : ℕ) (d : Span) → i < length spans → (get_or spans i d).start ≡ at → (get_or spans i d).end < length text
    → get_or text (get_or spans i d).end 0 ≡ 13 → at ≤ (get_or spans i d).end
    → flat_map ended (map (covered text) (drop (i + 1) spans)) ≡ drop ((get_or spans i d).end + 1) text
    → flat_map ended (map (covered text) (drop i spans)) ≡ drop at text
printed_from text spans i at d below starts within ends ordered rest =
    let span = get_or spans i d in
    let here : drop i spans ≡ span ∷ drop (i + 1) spans = rw add-one (drop-cons spans i d below) in
    let behind = flat_map ended (map (covered text) (drop (i + 1) spans)) in
    let last : drop span.end text ≡ 13 ∷ drop (span.end + 1) text = rw (add-one, ← ends) (drop-cons text span.end 0 within) in
    ap (λ spans. flat_map ended (map (covered text) spans)) here
    ∙ append_assoc (covered text span) (13 ∷ []) behind
    ∙ ap (λ rest. covered text span ++ 13 ∷ rest) rest
    ∙ ap (λ rest. covered text span ++ rest) (sym last)
    ∙ sym (drop_split text span.start span.end (omega arith))
    ∙ ap (λ n. drop n text) starts
