-- The first segment of a text.
use Rattle.std.proofs.Common.{◌≡◌, ℕ, zero, suc, ◌+◌, ◌-◌, ◌<◌, not, List, [], ◌∷◌, length, take, drop, get_or, map, refl, sym, ap, ◌∙◌, arith, add-one, drop-cons, length-take, length-drop, add-zero}
use Rattle.std.proofs.lemmas.Bool.{eqb-true, eq-eqb, cases_lt}
use Rattle.std.proofs.Common.{◌≤◌, false, inl, inr, subst, nat_eq}
use Rattle.lane_scan.specs.inner.Scan.{AreAhead, IsNowhere}
use Rattle.er7_tree.specs.inner.Spans.{IsNear}
use Rattle.std.proofs.lemmas.List.{take_rest, drop-drop, get_or-drop, drop_all}
use Rattle.std.specs.List.{filter, slice_range}
use Rattle.memchr.specs.Find.{Passes, is_byte, Nowhere}
use Rattle.er7_tree.specs.Pieces.{split, is_empty}
use Rattle.er7_tree.specs.Tree.{segments_of, without_line_feed, without_line_feeds}
use Rattle.er7_tree.proofs.Cutting.{cut_at, uncut}

-- the segments behind a carriage return
abbrev pub segments_behind : List ℕ → List (List ℕ)
segments_behind rest = filter (λ piece. not (is_empty piece)) (map without_line_feed (split 13 rest))

-- a first piece that isn't empty is a segment
first_piece : (piece : List ℕ) (pieces : List (List ℕ)) → 0 < length piece
    → filter (λ piece. not (is_empty piece)) (without_line_feeds (piece ∷ pieces)) ≡ piece ∷ filter (λ piece. not (is_empty piece)) (map without_line_feed pieces)
first_piece [] pieces some = absurd (omega arith)
first_piece (b ∷ bs) pieces some = refl

segments_by : (s piece : List ℕ) (pieces : List (List ℕ)) → split 13 s ≡ piece ∷ pieces → 0 < length piece
    → segments_of s ≡ piece ∷ filter (λ piece. not (is_empty piece)) (map without_line_feed pieces)
segments_by s piece pieces cut some =
    ap (λ pieces. filter (λ piece. not (is_empty piece)) (without_line_feeds pieces)) cut ∙ first_piece piece pieces some

-- a carriage return at the front
pub segments_ended : (s rest : List ℕ) → s ≡ 13 ∷ rest → segments_of s ≡ segments_behind rest
segments_ended s rest is = ap segments_of is

-- a text up to a carriage return
pub cut_segment : (at : ℕ) (s : List ℕ) → at < length s → (get_or s 0 0 ≡ 13 → ⊥) → Passes (is_byte 13) s at → Nowhere (Passes (is_byte 13) s) 0 at
    → segments_of s ≡ take at s ∷ segments_of (drop at s)
cut_segment zero s below other here before = absurd (other (eqb-true _ _ here))
cut_segment (suc at) s below other here before =
    let ends : get_or s (suc at) 0 ≡ 13 = eqb-true _ _ here in
    let rest : drop (suc at) s ≡ 13 ∷ drop (suc (suc at)) s = drop-cons s (suc at) 0 below ∙ ap (λ x. x ∷ drop (suc (suc at)) s) ends in
    let cut : split 13 s ≡ take (suc at) s ∷ split 13 (drop (suc (suc at)) s) = rw (take_rest, add-one) at (cut_at 13 (suc at) s below here before) in
    segments_by s (take (suc at) s) (split 13 (drop (suc (suc at)) s)) cut (omega (arith, length-take (suc at) s))
    ∙ ap (λ segments. take (suc at) s ∷ segments) (sym (segments_ended (drop (suc at) s) (drop (suc (suc at)) s) rest))

-- a text without a carriage return
pub whole_segment : (s : List ℕ) → 0 < length s → Nowhere (Passes (is_byte 13) s) 0 (length s) → segments_of s ≡ s ∷ []
whole_segment s some none = segments_by s s [] (uncut 13 s none) some

-- the same by the place in a text where the search began
pub first_span : (text s : List ℕ) (start at : ℕ) → s ≡ drop start text → (get_or text start 0 ≡ 13 → ⊥) → at < length s → Passes (is_byte 13) s at → Nowhere (Passes (is_byte 13) s) 0 at
    → segments_of (drop start text) ≡ slice_range text start (start + at) ∷ segments_of (drop (start + at) text)
first_span text s start at is other below here before =
    let first : get_or s 0 0 ≡ get_or text start 0 = ap (λ s. get_or s 0 0) is ∙ get_or-drop start text 0 0 ∙ ap (λ k. get_or text k 0) (add-zero start) in
    let cut = cut_segment at s below (λ ends. other (sym first ∙ ends)) here before in
    let long : start + at - start ≡ at = omega arith in
    let piece : take at s ≡ slice_range text start (start + at) = ap (take at) is ∙ ap (λ n. take n (drop start text)) (sym long) in
    let rest : drop at s ≡ drop (start + at) text = ap (drop at) is ∙ drop-drop at start text in
    ap segments_of (sym is) ∙ cut ∙ ap (λ piece. piece ∷ segments_of (drop at s)) piece ∙ ap (λ rest. slice_range text start (start + at) ∷ segments_of rest) rest

-- the last segment
pub last_span : (text s : List ℕ) (start : ℕ) → s ≡ drop start text → s ≡ take (length text - start) (drop start text) → start < length text → Nowhere (Passes (is_byte 13) s) 0 (length s)
    → segments_of (drop start text) ≡ slice_range text start (length text) ∷ segments_of (drop (length text) text)
last_span text s start is is_range below none =
    let whole = whole_segment s (omega (arith, ap length is, length-drop start text)) none in
    let done : segments_of (drop (length text) text) ≡ [] = ap segments_of (drop_all (length text) text (omega arith)) in
    ap segments_of (sym is) ∙ whole ∙ ap (λ piece. piece ∷ []) is_range ∙ ap (λ segments. slice_range text start (length text) ∷ segments) (sym done)

-- a byte behind a place
behind : (text : List ℕ) (start at : ℕ) → get_or (drop start text) at 0 ≡ get_or text (start + at) 0
behind text start at = get_or-drop start text at 0

-- the segment up to the next carriage return, or up to the end
pub segment_from : (text : List ℕ) (start end : ℕ) → start < length text → (get_or text start 0 ≡ 13 → ⊥) → start ≤ end → end ≤ length text → IsNowhere 13 text start end
    → (end < length text → get_or text end 0 ≡ 13) → segments_of (drop start text) ≡ slice_range text start end ∷ segments_of (drop end text)
segment_from text start end below other forth within none here =
    elim (cases_lt end (length text)) [
      | inl lt ↦
          let place : start + (end - start) ≡ end = omega arith in
          let ends : get_or (drop start text) (end - start) 0 ≡ 13 = behind text start (end - start) ∙ ap (λ k. get_or text k 0) place ∙ here lt in
          let found = first_span text (drop start text) start (end - start) refl other (omega (arith, length-drop start text)) (eq-eqb _ 13 ends)
          (λ k low high passes. not_here text start k (none (start + k) (omega arith) (omega arith)) passes) in
          rw place at found
      | inr ge ↦
          let all : end ≡ length text = omega arith in
          let found = last_span text (drop start text) start refl (take_rest-sym text start) below
          (λ k low high passes. not_here text start k (none (start + k) (omega arith) (omega (arith, length-drop start text))) passes) in
          subst (λ e. segments_of (drop start text) ≡ slice_range text start e ∷ segments_of (drop e text)) (sym all) found
    ]
  where
    not_here : (text : List ℕ) (start k : ℕ) → nat_eq (get_or text (start + k) 0) 13 ≡ false → Passes (is_byte 13) (drop start text) k → ⊥
    not_here text start k other passes = let same = ap (λ b. nat_eq b 13) (behind text start k) in cc

    take_rest-sym : (text : List ℕ) (start : ℕ) → drop start text ≡ take (length text - start) (drop start text)
    take_rest-sym text start = sym (take_rest text start)

-- a segment that begins with another byte isn't empty
pub segment-some : (text : List ℕ) (start end : ℕ) → start < length text → (get_or text start 0 ≡ 13 → ⊥) → start ≤ end → (end < length text → get_or text end 0 ≡ 13) → start < end
segment-some text start end below other forth here =
    elim (cases_lt start end) [
      | inl lt ↦ lt
      | inr ge ↦ let same : end ≡ start = omega arith in absurd (other (ap (λ k. get_or text k 0) (sym same) ∙ here (omega arith)))
    ]

-- the search has not come behind where a segment begins
pub near-behind : (text : List ℕ) (from start at : ℕ) → IsNear text from at → from ≤ start → start < length text → (get_or text start 0 ≡ 13 → ⊥) → at ≤ start
near-behind text from start at near forth below other =
    elim (cases_lt start at) [
      | inl lt ↦
          let most = near.most in
          let same : from ≡ start = omega arith in
          absurd (other (ap (λ k. get_or text k 0) (sym same) ∙ near.here (omega arith) (omega arith)))
      | inr ge ↦ ge
    ]

-- nor behind the end that was found
pub near-end : (text : List ℕ) (stop at end bits : ℕ) → AreAhead 13 text at end bits → stop ≤ length text → (stop < length text → get_or text stop 0 ≡ 13) → (stop < length text → at ≡ stop + 1) → IsNear text stop at
near-end text stop at end bits are within here next =
    let o = are.ordered in
    let w = are.within in
    record {
      most = elim (cases_lt stop (length text)) [ inl lt ↦ let n = next lt in omega arith | inr ge ↦ omega arith ];
      here = λ lt below. here below;
      last = λ all. omega arith;
    }
