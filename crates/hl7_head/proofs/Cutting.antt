-- The pieces of a part of a text, read one after the other.
use Rattle.std.proofs.Common.{◌≡◌, ◌≢◌, ℕ, zero, suc, ◌+◌, ◌-◌, ◌<◌, ◌≤◌, false, List, [], ◌∷◌, length, take, drop, get_or, set, ⊎_elim, refl, sym, ap, subst, min, ◌∙◌, arith, nat_eq, slice_range, length-take, length-drop, length-set}
use Rattle.std.proofs.lemmas.Bool.{false_from_ne_true, cases_eq, eqb-true, eq-eqb}
use Rattle.std.proofs.lemmas.List.{take-take, drop-take, drop-drop, get_or-take, get_or-drop, get_or-set_same, get_or-set_other}
use Rattle.std.proofs.lemmas.List.Sums.{position_or_len_is}
use Rattle.std.proofs.lemmas.List.Splits.{slice_split_first}
use Rattle.std.specs.List.{position_or_len}
use Rattle.er7_tree.specs.Pieces.{split, piece_at}
use Rattle.memchr.specs.Find.{Passes, is_byte, Nowhere}
use Rattle.er7_tree.specs.declared.segments.Span.{Span}
use Rattle.er7_tree.specs.inner.Spans.{covered, IsBetween}
use Rattle.lane_scan.specs.inner.Scan.{IsNext, IsNowhere}
use Rattle.hl7_head.specs.inner.Places.{ReadsFirst}

-- at a separator, a text is cut into the piece before it and the pieces after it
split_at : (separator at : ℕ) (text : List ℕ) → at < length text → Passes (is_byte separator) text at → Nowhere (Passes (is_byte separator) text) 0 at
    → split separator text ≡ take at text ∷ split separator (drop (at + 1) text)
split_at separator at text lt here before =
    let place : position_or_len (λ b. nat_eq b separator) text ≡ at =
    position_or_len_is (λ b. nat_eq b separator) text at 0 (omega arith) (λ k below. false_from_ne_true _ (before k (omega arith) below)) (λ _. here) in
    let within : position_or_len (λ b. nat_eq b separator) text < length text = rw place lt in
    rw place at (slice_split_first (λ b. nat_eq b separator) text 0 within)

-- with no separator, a text is its one piece
split_nowhere : (separator : ℕ) (text : List ℕ) → Nowhere (Passes (is_byte separator) text) 0 (length text) → split separator text ≡ text ∷ []
split_nowhere separator [] none = refl
split_nowhere separator (b ∷ bs) none =
    let no : nat_eq b separator ≡ false = false_from_ne_true _ (none 0 (omega arith) (omega arith)) in
    let more = split_nowhere separator bs (λ k low high. none (suc k) (omega arith) (omega arith)) in
    rw (no, more) refl

pub range_front : (text : List ℕ) (a at e : ℕ) → a + at ≤ e → take at (slice_range text a e) ≡ slice_range text a (a + at)
range_front text a at e le = let width : (a + at) - a ≡ at = omega arith in rw (width, take-take at (e - a) (drop a text) (omega arith)) refl

pub range_back : (text : List ℕ) (a n e : ℕ) → a + n ≤ e → drop n (slice_range text a e) ≡ slice_range text (a + n) e
range_back text a n e le =
    let width : e - a ≡ n + (e - (a + n)) = omega arith in
    rw width (drop-take n (e - (a + n)) (drop a text) ∙ ap (take (e - (a + n))) (drop-drop n a text))

range_none : (text : List ℕ) (e : ℕ) → slice_range text e e ≡ []
range_none text e = let width : e - e ≡ 0 = omega arith in rw width refl

pub length_range : (text : List ℕ) (a e : ℕ) → a ≤ e → e ≤ length text → length (slice_range text a e) ≡ e - a
length_range text a e le in_text = simp (length-take, length-drop) (omega arith)

-- an empty text has empty pieces alone
blank : (k : ℕ) → get_or ([] ∷ []) k [] ≡ get_or {A = List ℕ} [] k []
blank zero = refl
blank (suc k) = refl

pub reads_found : (text : List ℕ) (separator start end at : ℕ) → start + at < end → end ≤ length text
    → Passes (is_byte separator) (slice_range text start end) at → Nowhere (Passes (is_byte separator) (slice_range text start end)) 0 at
    → ReadsFirst text separator (record { start = start; end = end }) (record { start = start; end = start + at })
reads_found text separator start end at lt in_text here before =
    let short : at < length (slice_range text start end) = rw (length_range text start end (omega arith) in_text) (omega arith) in
    let cut = split_at separator at (slice_range text start end) short here before in
    let front = range_front text start at end (omega arith) in
    let back = range_back text start (at + 1) end (omega arith) in
    let next : min end (start + at + 1) ≡ start + (at + 1) = omega arith in
    record {
      starts = refl;
      ordered = omega arith;
      ends = omega arith;
      first = rw cut (sym front);
      others = λ k. let one : (k + 2) - 1 ≡ suc k = omega arith in let two : (k + 1) - 1 ≡ k = omega arith in rw (cut, one, two, next, back) refl;
    }

pub reads_nowhere : (text : List ℕ) (separator start end : ℕ) → start ≤ end → Nowhere (Passes (is_byte separator) (slice_range text start end)) 0 (length (slice_range text start end))
    → ReadsFirst text separator (record { start = start; end = end }) (record { start = start; end = end })
reads_nowhere text separator start end forth none =
    let cut = split_nowhere separator (slice_range text start end) none in
    let next : min end (end + 1) ≡ end = omega arith in
    record {
      starts = refl;
      ordered = forth;
      ends = omega arith;
      first = rw cut refl;
      others = λ k. let one : (k + 2) - 1 ≡ suc k = omega arith in let two : (k + 1) - 1 ≡ k = omega arith in rw (cut, one, two, next, range_none text end) (blank k);
    }

-- the span of this place holds the piece of this place
pub record Holds (text : List ℕ) (pieces : List (List ℕ)) (k : ℕ) (span : Span) : Type 0 where
  pub within : IsBetween 0 (length text) span
  pub read : covered text span ≡ piece_at (k + 1) pieces

-- the first n spans hold the first n pieces, and what is left of the part holds the others
pub record ReadsOn (text : List ℕ) (separator : ℕ) (left : Span) (n size : ℕ) (pieces : List (List ℕ)) (spans : List Span) : Type 0 where
  pub sized : length spans ≡ size
  pub inside : IsBetween 0 (length text) left
  pub done : (k : ℕ) (d : Span) → k < n → Holds text pieces k (get_or spans k d)
  pub others : (k : ℕ) → piece_at (k + 1) (split separator (covered text left)) ≡ piece_at (n + k + 1) pieces

-- one more span
one_more : (text : List ℕ) (pieces : List (List ℕ)) (spans : List Span) (n : ℕ) (span : Span) → n < length spans → Holds text pieces n span
    → ((k : ℕ) (d : Span) → k < n → Holds text pieces k (get_or spans k d)) → (k : ℕ) (d : Span) → k < n + 1 → Holds text pieces k (get_or (set spans n span) k d)
one_more text pieces spans n span short here before k d below =
    ⊎_elim (λ same. let P : ℕ → Type 0 = λ m. Holds text pieces m (get_or (set spans n span) m d) in subst P (sym same) (rw (get_or-set_same spans n span d short) here))
    (λ other. rw (get_or-set_other spans n k span d other) (before k d (omega arith)))
    (cases_eq k n)

pub reads_more : (text : List ℕ) (separator n size : ℕ) (left piece : Span) (pieces : List (List ℕ)) (spans : List Span) → n < size
    → ReadsFirst text separator left piece → ReadsOn text separator left n size pieces spans
    → ReadsOn text separator (record { start = min left.end (piece.end + 1); end = left.end }) (n + 1) size pieces (set spans n piece)
reads_more text separator n size left piece pieces spans short reads so_far =
    let first : n + 0 + 1 ≡ n + 1 = omega arith in
    let there : left.end ≤ length text = so_far.inside.within in
    let shorter : n < length spans = omega (arith, so_far.sized) in
    record {
      sized = length-set spans n piece ∙ so_far.sized;
      inside = record { behind = omega arith; ordered = omega arith; within = so_far.inside.within };
      done = one_more text pieces spans n piece shorter
          (record { within = record { behind = omega arith; ordered = reads.ordered; within = omega (arith, reads.ends) }; read = reads.first ∙ so_far.others 0 ∙ ap (λ k. piece_at k pieces) first }) so_far.done;
      others = λ k. let count : n + (k + 1) + 1 ≡ n + 1 + k + 1 = omega arith in let two : k + 1 + 1 ≡ k + 2 = omega arith in
          reads.others k ∙ ap (λ m. piece_at m (split separator (covered text left))) (sym two) ∙ so_far.others (k + 1) ∙ ap (λ m. piece_at m pieces) count;
    }

-- a byte of a range
at_range : (text : List ℕ) (start end k : ℕ) → k < end - start → get_or (slice_range text start end) k 0 ≡ get_or text (start + k) 0
at_range text start end k below = get_or-take (end - start) (drop start text) k 0 below ∙ get_or-drop start text k 0

-- where no byte up to a place is the separator, none of the range is
none_of_range : (text : List ℕ) (separator start end stop : ℕ) → stop ≤ end → ((k : ℕ) → start ≤ k → k < stop → get_or text k 0 ≢ separator)
    → Nowhere (Passes (is_byte separator) (slice_range text start end)) 0 (stop - start)
none_of_range text separator start end stop within other = λ k low high passes.
    other (start + k) (omega arith) (omega arith) (sym (at_range text start end k (omega arith)) ∙ eqb-true _ separator passes)

-- the bytes were read one after the other, up to a separator
pub reads_to : (text : List ℕ) (separator start end stop : ℕ) → start ≤ stop → stop < end → end ≤ length text → get_or text stop 0 ≡ separator
    → ((k : ℕ) → start ≤ k → k < stop → get_or text k 0 ≢ separator) → ReadsFirst text separator (record { start = start; end = end }) (record { start = start; end = stop })
reads_to text separator start end stop behind within in_text is other =
    let place : start + (stop - start) ≡ stop = omega arith in
    let same : get_or (slice_range text start end) (stop - start) 0 ≡ separator = at_range text start end (stop - start) (omega arith) ∙ ap (λ k. get_or text k 0) place ∙ is in
    let read = reads_found text separator start end (stop - start) (omega arith) in_text (eq-eqb _ separator same) (none_of_range text separator start end stop (omega arith) other) in
    rw place at read

-- or up to the end
pub reads_whole : (text : List ℕ) (separator start end : ℕ) → start ≤ end → end ≤ length text
    → ((k : ℕ) → start ≤ k → k < end → get_or text k 0 ≢ separator) → ReadsFirst text separator (record { start = start; end = end }) (record { start = start; end = end })
reads_whole text separator start end forth in_text other =
    let size = length_range text start end forth in_text in
    reads_nowhere text separator start end forth (rw size (none_of_range text separator start end end (omega arith) other))

-- where the byte stands nowhere it is no separator
no_separator : (text : List ℕ) (separator from to : ℕ) → IsNowhere separator text from to → (k : ℕ) → from ≤ k → k < to → get_or text k 0 ≢ separator
no_separator text separator from to none k low high same = let here = eq-eqb (get_or text k 0) separator same in let bare = none k low high in cc

-- up to the next separator
pub reads_next : (text : List ℕ) (separator start end at stop : ℕ) → at ≡ start → stop < end → end ≤ length text → IsNext separator text at stop
    → ReadsFirst text separator (record { start = start; end = end }) (record { start = start; end = stop })
reads_next text separator start end at stop same lt in_text next =
    reads_to text separator start end stop (let b = next.behind in omega arith) lt in_text (eqb-true _ separator next.here)
    (λ k low high. no_separator text separator at stop next.before k (omega arith) high)

-- or up to the end, where the next one stands behind it
pub reads_past : (text : List ℕ) (separator start end at stop : ℕ) → at ≡ start → start ≤ end → end ≤ stop → end ≤ length text → IsNowhere separator text at stop
    → ReadsFirst text separator (record { start = start; end = end }) (record { start = start; end = end })
reads_past text separator start end at stop same forth far in_text none =
    reads_whole text separator start end forth in_text (λ k low high. no_separator text separator at stop none k (omega arith) (omega arith))
