-- How many messages are forgotten.
use Rattle.std.proofs.Common.{◌≡◌, ℕ, ◌+◌, ◌-◌, ◌<◌, ◌≤◌, inl, inr, Bool, true, false, cond, nat_lt, List, [], ◌∷◌, length, Option, None, Some, refl, sym, ◌∙◌, ap, arith, suc, zero}
use Rattle.std.specs.Prelude.{count_by, is_some, slice_get}
use Rattle.std.specs.List.{range_with_len}
use Rattle.std.specs.Option.{is_none, option_map_or}
use Rattle.std.proofs.lemmas.Bool.Decides.{nat_tests}
use Rattle.std.proofs.lemmas.List.FromFn.{length-range_with_len}
use Rattle.std.proofs.lemmas.List.Sums.{count_by-le-length, sum_by-append, sum_by-cons}
use Rattle.dest_queue.specs.declared.SlotState.{SlotState}
use Rattle.dest_queue.specs.declared.SlotState.TheVariants.{Waiting, InFlight, Delivered, Failed}
use Rattle.event_log.specs.Counting.{is_delivered, is_failed}
use Rattle.event_log.specs.Folding.{forgotten_count, prune_answer, pruned}
use Rattle.event_log.specs.History.{Accepted, History, accepted, begun, message_at, message_count, names, numbers, slot, state}
use Rattle.event_log.specs.inner.History.{forgotten_messages}
use Rattle.event_log.specs.inner.Legal.{IsSound}
use Rattle.event_log.proofs.FoldedAlike.{count-split, few, message-gone, message-kept, range-split, same-count}
use Rattle.event_log.proofs.OneMore.{count-range, lt-tells}

-- each message is there or forgotten
there-or-gone : (h : History) (ns : List ℕ) → count_by (λ n. is_none (message_at h n)) ns + count_by (λ n. is_some (message_at h n)) ns ≡ length ns
there-or-gone h [] = refl
there-or-gone h (n ∷ ns) =
    let rest = there-or-gone h ns in
    let here = by (message_at h n) in
    omega (arith, sum_by-cons (λ n. cond (is_none (message_at h n)) 1 0) n ns, sum_by-cons (λ n. cond (is_some (message_at h n)) 1 0) n ns)
  where
    by : (m : Option Accepted) → cond (is_none m) 1 0 + cond (is_some m) 1 0 ≡ 1
    by None = refl
    by (Some m) = refl

-- no more are forgotten than there were
pub gone-few : (h : History) → forgotten_messages h ≤ message_count h
gone-few h = let most = count_by-le-length (λ n. is_none (message_at h n)) (numbers h) in omega (arith, most, length-range_with_len 0 (message_count h))

-- what was forgotten at the opening stays forgotten
gone-before : (h : History) → forgotten_messages (begun h.opening) ≤ forgotten_messages h
gone-before h =
    let many : h.opening.messages + 0 ≡ h.opening.messages = omega arith in
    let was = ap (λ k. count_by (λ n. is_none (message_at (begun h.opening) n)) (range_with_len 0 k)) many in
    let same = count-range (λ n. is_none (message_at (begun h.opening) n)) (λ n. is_none (message_at h n)) 0 h.opening.messages alike in
    let split = ap (count_by (λ n. is_none (message_at h n))) (range-split 0 h.opening.messages (length (accepted h))) in
    omega (
      arith,
      was,
      same,
      split,
      sum_by-append (λ n. cond (is_none (message_at h n)) 1 0) (range_with_len 0 h.opening.messages) (range_with_len (0 + h.opening.messages) (length (accepted h))),
    )
  where
    alike : (n : ℕ) → 0 ≤ n → n < 0 + h.opening.messages → is_none (message_at (begun h.opening) n) ≡ is_none (message_at h n)
    alike n low below = let earlier : nat_lt n h.opening.messages ≡ true = grind (arith, nat_tests) in rw earlier refl

-- a message that was delivered or failed at a destination is there
settled-there : (h : History) (d : ℕ) (ns : List ℕ)
    → count_by (λ n. option_map_or is_delivered (slot h n d) false) ns + count_by (λ n. option_map_or is_failed (slot h n d) false) ns ≤ count_by (λ n. is_some (message_at h n)) ns
settled-there h d [] = omega arith
settled-there h d (n ∷ ns) =
    let rest = settled-there h d ns in
    let here = one (message_at h n) in
    omega (
      arith,
      sum_by-cons (λ n. cond (option_map_or is_delivered (slot h n d) false) 1 0) n ns,
      sum_by-cons (λ n. cond (option_map_or is_failed (slot h n d) false) 1 0) n ns,
      sum_by-cons (λ n. cond (is_some (message_at h n)) 1 0) n ns,
    )
  where
    settled : (b : Bool) (s : SlotState) → cond (option_map_or is_delivered (cond b (Some s) None) false) 1 0 + cond (option_map_or is_failed (cond b (Some s) None) false) 1 0 ≤ 1
    settled false s = omega arith
    settled true (Waiting attempts due) = omega arith
    settled true (InFlight attempt) = omega arith
    settled true Delivered = omega arith
    settled true (Failed cause) = omega arith

    one : (m : Option Accepted)
        → cond (option_map_or is_delivered (cond (names d (option_map_or (λ m. m.deliveries) m [])) (Some (state h n d)) None) false) 1 0
        + cond (option_map_or is_failed (cond (names d (option_map_or (λ m. m.deliveries) m [])) (Some (state h n d)) None) false) 1 0 ≤ cond (is_some m) 1 0
    one None = omega arith
    one (Some m) = settled (names d m.deliveries) (state h n d)

-- those that a pruning forgets and that were delivered or failed at a destination, with those forgotten at the opening, are no more than are forgotten then
pub gone-after : (h : History) (sound : IsSound h) (bound : ℕ) → prune_answer h bound ≡ None → (d : ℕ)
    → forgotten_messages (begun h.opening) + (forgotten_count h bound d is_delivered + forgotten_count h bound d is_failed) ≤ forgotten_messages (pruned bound h)
gone-after h sound bound may d =
    let before = gone-before h in
    let settled = settled-there h d (range_with_len 0 bound) in
    let split = count-split (λ n. is_some (message_at h n)) (λ n. is_some (message_at (pruned bound h) n)) bound (message_count h) (few h sound bound may)
    (λ n below. ap is_some (message-gone h sound bound may n below)) (λ n from. ap is_some (message-kept h sound bound may n from)) in
    let whole = there-or-gone h (numbers h) in
    let left = there-or-gone (pruned bound h) (numbers h) in
    let count = ap (λ k. count_by (λ n. is_none (message_at (pruned bound h) n)) (range_with_len 0 k)) (same-count h sound bound may) in
    omega arith

-- ---- in turn

inside-some : {A : Type 0} (xs : List A) (k : ℕ) → k < length xs → is_some (slice_get xs k) ≡ true
inside-some [] k inside = absurd (omega arith)
inside-some (x ∷ xs) zero inside = refl
inside-some (x ∷ xs) (suc k) inside = inside-some xs k (omega arith)

-- a message that came after one that is there is there
pub in-turn : (h : History) → IsSound h → (n m : ℕ) → n ≤ m → m < message_count h → is_some (message_at h n) ≡ true → is_some (message_at h m) ≡ true
in-turn h sound n m less below there = elim (lt-tells m h.opening.messages) [
  | inl w ↦
      let inside = w.1 in
      let first : nat_lt n h.opening.messages ≡ true = grind (arith, nat_tests) in
      let same : message_at (begun h.opening) n ≡ message_at h n = rw first refl in
      let same-later : message_at (begun h.opening) m ≡ message_at h m = rw w.0 refl in
      ap is_some (sym same-later) ∙ sound.opening.in_turn n m less inside (ap is_some same ∙ there)
  | inr w ↦ let past = w.1 in rw w.0 (inside-some (accepted h) (m - h.opening.messages) (omega arith))
]

pub in-turn-folded : (h : History) → IsSound h → (bound : ℕ) → prune_answer h bound ≡ None → (n m : ℕ) → n ≤ m → m < message_count h
    → is_some (message_at (pruned bound h) n) ≡ true → is_some (message_at (pruned bound h) m) ≡ true
in-turn-folded h sound bound may n m less below there = elim (lt-tells n bound) [
  | inl w ↦ let none : is_some (message_at (pruned bound h) n) ≡ false = ap is_some (message-gone h sound bound may n w.1) in absurd cc
  | inr w ↦
      let from = w.1 in
      ap is_some (message-kept h sound bound may m (omega arith)) ∙ in-turn h sound n m less below (sym (ap is_some (message-kept h sound bound may n from)) ∙ there)
]
