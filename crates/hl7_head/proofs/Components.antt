-- The first two components of the first repetition of a field, found in one walk over its bytes.
use Rattle.std.proofs.Common.{◌≡◌, ◌≢◌, ℕ, zero, suc, ◌+◌, ◌-◌, ◌<◌, ◌≤◌, List, [], ◌∷◌, length, get_or, ⊎_elim, sym, ap, subst, min, ◌∙◌, arith, slice_range}
use Rattle.std.proofs.lemmas.Bool.{cases_eq, cases_lt}
use Rattle.er7_tree.specs.Pieces.{split, piece_at}
use Rattle.er7_tree.specs.declared.segments.Span.{Span}
use Rattle.er7_tree.specs.inner.Spans.{covered, IsBetween}
use Rattle.hl7_head.specs.inner.Places.{AreFirstPieces, ReadsFirst}
use Rattle.hl7_head.proofs.Cutting.{Holds, reads_to, reads_whole}

-- a byte is not from one offset up to another
abbrev pub Lacks : List ℕ → ℕ → ℕ → ℕ → Type 0
Lacks text byte from to = (k : ℕ) → from ≤ k → k < to → get_or text k 0 ≢ byte

-- where a byte is first, from one offset up to another, or the latter
record IsStop (text : List ℕ) (byte from to stop : ℕ) : Type 0 where
  behind : from ≤ stop
  within : stop ≤ to
  none : Lacks text byte from stop
  here : stop < to → get_or text stop 0 ≡ byte

stop_of : (text : List ℕ) (byte left from : ℕ) → (stop : ℕ) × IsStop text byte from (from + left) stop
stop_of text byte zero from = (from, record { behind = omega arith; within = omega arith; none = λ k low high. absurd (omega arith); here = λ lt. absurd (omega arith) })
stop_of text byte (suc left) from =
    ⊎_elim (λ same. (from, record { behind = omega arith; within = omega arith; none = λ k low high. absurd (omega arith); here = λ lt. same }))
    (λ other.
    let next = stop_of text byte left (suc from) in
    let behind = next.1.behind in
    let within = next.1.within in (
      next.0,
      record {
        behind = omega (arith, behind);
        within = omega (arith, within);
        none = λ k low high. ⊎_elim (λ same. subst (λ m. get_or text m 0 ≢ byte) (sym same) other) (λ more. next.1.none k (omega arith) high) (cases_eq k from);
        here = λ lt. next.1.here (omega (arith, lt));
      },
    ))
    (cases_eq (get_or text from 0) byte)

-- the first piece of a part ends at such a place
reads_stop : (text : List ℕ) (byte start end from stop : ℕ) → start ≤ from → end ≤ length text → Lacks text byte start from → IsStop text byte from end stop
    → ReadsFirst text byte (record { start = start; end = end }) (record { start = start; end = stop })
reads_stop text byte start end from stop ordered in_text before is =
    let behind = is.behind in
    let within = is.within in
    let lacks : Lacks text byte start stop = λ k low high. ⊎_elim (λ lt. before k low lt) (λ ge. is.none k ge high) (cases_lt k from) in
    ⊎_elim (λ lt. reads_to text byte start end stop (omega (arith, behind)) lt in_text (is.here lt) lacks)
    (λ ge. let last : stop ≡ end = omega (arith, within, ge) in
    subst (λ m. ReadsFirst text byte (record { start = start; end = end }) (record { start = start; end = m })) (sym last)
    (reads_whole text byte start end (omega (arith, behind, within)) in_text (λ k low high. lacks k low (omega (arith, last, high)))))
    (cases_lt stop end)

held : (text : List ℕ) (pieces : List (List ℕ)) (first second : Span) → Holds text pieces 0 first → Holds text pieces 1 second
    → (k : ℕ) (d : Span) → k < 2 → Holds text pieces k (get_or (first ∷ second ∷ []) k d)
held text pieces first second one two zero d short = one
held text pieces first second one two (suc zero) d short = two
held text pieces first second one two (suc (suc k)) d short = absurd (omega arith)

both : (text : List ℕ) (pieces : List (List ℕ)) (first second : Span) → Holds text pieces 0 first → Holds text pieces 1 second
    → AreFirstPieces text pieces (first ∷ second ∷ [])
both text pieces first second one two = record {
  within = λ k d short. (held text pieces first second one two k d short).within;
  read = λ k d short. (held text pieces first second one two k d short).read;
}

-- what is cut at a component separator, of the first repetition
cut : (text : List ℕ) (component : ℕ) (repetition : List ℕ) (start stop n : ℕ) (second : Span) → start ≤ n → stop ≤ length text
    → covered text (record { start = start; end = stop }) ≡ repetition
    → ReadsFirst text component (record { start = start; end = stop }) (record { start = start; end = n })
    → IsBetween 0 (length text) second → covered text second ≡ piece_at 1 (split component (slice_range text (min stop (n + 1)) stop))
    → AreFirstPieces text (split component repetition) (record { start = start; end = n } ∷ second ∷ [])
cut text component repetition start stop n second ordered in_text is read within last =
    let ends = read.ends in
    both text (split component repetition) (record { start = start; end = n }) second
    (record { within = record { behind = omega arith; ordered = ordered; within = omega (arith, ends, in_text) }; read = read.first ∙ ap (λ piece. piece_at 1 (split component piece)) is })
    (record { within = within; read = last ∙ read.others 0 ∙ ap (λ piece. piece_at 2 (split component piece)) is })

-- no component separator is in the first repetition
pub one_component : (text : List ℕ) (component repetition start end n : ℕ) → start ≤ n → n ≤ end → end ≤ length text
    → Lacks text component start n → Lacks text repetition start n → (n < end → get_or text n 0 ≡ repetition)
    → AreFirstPieces text (split component (piece_at 1 (split repetition (covered text (record { start = start; end = end })))))
    (record { start = start; end = n } ∷ record { start = n; end = n } ∷ [])
one_component text component repetition start end n ordered within in_text bare none here =
    let here_is : IsStop text repetition start end n = record { behind = ordered; within = within; none = none; here = here } in
    let first = reads_stop text repetition start end start n (omega arith) in_text (λ k low high. absurd (omega arith)) here_is in
    let whole = reads_whole text component start n ordered (omega (arith, within, in_text)) bare in
    let empty = reads_whole text component n n (omega arith) (omega (arith, within, in_text)) (λ k low high. absurd (omega arith)) in
    let next : n ≡ min n (n + 1) = omega arith in
    cut text component (piece_at 1 (split repetition (covered text (record { start = start; end = end })))) start n n (record { start = n; end = n })
    ordered (omega (arith, within, in_text)) first.first whole
    (record { behind = omega arith; ordered = omega arith; within = omega (arith, within, in_text) })
    (empty.first ∙ ap (λ m. piece_at 1 (split component (slice_range text m n))) next)

-- a component separator is in it, and the second component ends at m
pub two_components : (text : List ℕ) (component repetition start end n m : ℕ) → start ≤ n → n < end → end ≤ length text → get_or text n 0 ≡ component → component ≢ repetition
    → Lacks text component start n → Lacks text repetition start n
    → n + 1 ≤ m → m ≤ end → Lacks text component (n + 1) m → Lacks text repetition (n + 1) m → (m < end → get_or text m 0 ≢ component → get_or text m 0 ≡ repetition)
    → AreFirstPieces text (split component (piece_at 1 (split repetition (covered text (record { start = start; end = end })))))
    (record { start = start; end = n } ∷ record { start = n + 1; end = m } ∷ [])
two_components text component repetition start end n m ordered short in_text at apart bare none behind within bare_more none_more here =
    let found = stop_of text repetition (end - m) m in
    let stop = found.0 in
    let to : m + (end - m) ≡ end = omega (arith, within) in
    let is : IsStop text repetition m end stop = subst (λ e. IsStop text repetition m e stop) to found.1 in
    let low = is.behind in
    let high = is.within in
    let lacks : Lacks text repetition start m = λ k from below.
    ⊎_elim (λ before. none k from before)
    (λ after. ⊎_elim (λ same. λ rep. apart (sym at ∙ ap (λ j. get_or text j 0) (sym same) ∙ rep)) (λ other. none_more k (omega (arith, after, other)) below) (cases_eq k n))
    (cases_lt k n) in
    let first = reads_stop text repetition start end m stop (omega (arith, ordered, behind)) in_text lacks is in
    let cut_at_n = reads_to text component start stop n ordered (omega (arith, behind, low)) (omega (arith, high, in_text)) at bare in
    let ends : IsStop text component (n + 1) stop m = record {
      behind = behind;
      within = low;
      none = bare_more;
      here = λ lt. ⊎_elim (λ same. same) (λ other. absurd (is.none m (omega arith) lt (here (omega (arith, lt, high)) other))) (cases_eq (get_or text m 0) component);
    } in
    let second = reads_stop text component (n + 1) stop (n + 1) m (omega arith) (omega (arith, high, in_text)) (λ k from below. absurd (omega arith)) ends in
    let next : n + 1 ≡ min stop (n + 1) = omega (arith, behind, low) in
    cut text component (piece_at 1 (split repetition (covered text (record { start = start; end = end })))) start stop n (record { start = n + 1; end = m })
    ordered (omega (arith, high, in_text)) first.first cut_at_n
    (record { behind = omega arith; ordered = behind; within = omega (arith, within, in_text) })
    (second.first ∙ ap (λ k. piece_at 1 (split component (slice_range text k stop))) next)
