-- Messages that are remembered with the last numbers.
use Rattle.std.proofs.Common.{◌≡◌, ◌≢◌, ℕ, ◌+◌, ◌-◌, ◌<◌, ◌≤◌, Bool, true, false, cond, inl, inr, List, [], ◌∷◌, length, Option, None, Some, refl, sym, ◌∙◌, ap, subst, arith, suc, zero}
use Rattle.std.specs.Prelude.{count_by, filter, find, is_some, slice_index}
use Rattle.std.specs.List.{cons_option, filter_map, range_with_len}
use Rattle.std.specs.List.Sorted.{IsStrictlyIncreasing}
use Rattle.std.specs.Option.{is_none, option_map}
use Rattle.std.proofs.lemmas.Bool.Decides.{eqb_tells}
use Rattle.std.proofs.lemmas.List.FromFn.{length-range_with_len}
use Rattle.std.proofs.lemmas.List.Sums.{length-filter, sum_by-cons}
use Rattle.event_log.specs.History.{Accepted, Remembered, Snapshot, accepted_of, begun, message_at, numbers, remembered_as}
use Rattle.event_log.specs.inner.History.{forgotten_messages, number_of}
use Rattle.event_log.proofs.MemoryNumbers.{Climbing}
use Rattle.event_log.proofs.OneMore.{lt-tells}
use Rattle.event_log.proofs.Recalling.{is_of}
use Rattle.book_core.proofs.PrunedRows.{filter-whole}
use Rattle.book_resume.specs.inner.Order.{AreLast}
use Rattle.book_resume.proofs.Found.{none-lower, numbered-else, numbered-own, unnumbered}
use Rattle.book_resume.proofs.NumbersBegun.{message-begun, remaining-begun}

-- ---- numbers that follow one another

pub range-climbs : (low len high : ℕ) → low + len ≤ high → Climbing low high (range_with_len low len)
range-climbs low zero high fits = tt
range-climbs low (suc len) high fits = (omega arith, omega arith, range-climbs (low + 1) len high (omega arith))

pub climbing-rises : (low high : ℕ) (ns : List ℕ) → Climbing low high ns → IsStrictlyIncreasing ns
climbing-rises low high [] climb k inside = absurd (omega arith)
climbing-rises low high (n ∷ []) climb k inside = absurd (omega arith)
climbing-rises low high (n ∷ (m ∷ ns)) climb zero inside = let rest = climb.2 in let first = rest.0 in omega arith
climbing-rises low high (n ∷ (m ∷ ns)) climb (suc k) inside =
    let next : suc (k + 1) ≡ suc k + 1 = omega arith in
    subst (λ j. slice_index (m ∷ ns) k < slice_index (n ∷ (m ∷ ns)) j) next (climbing-rises (n + 1) high (m ∷ ns) climb.2 k (omega arith))

-- the last numbers climb below the count of messages
pub last-climb : (messages : ℕ) (ns : List ℕ) → AreLast messages ns → Climbing 0 messages ns
last-climb messages ns last =
    let few = last.few in
    subst (Climbing 0 messages) (sym last.last) (lower (messages - length ns) (length ns) (range-climbs (messages - length ns) (length ns) messages (omega arith)))
  where
    lower : (low len : ℕ) → Climbing low messages (range_with_len low len) → Climbing 0 messages (range_with_len low len)
    lower low zero climb = tt
    lower low (suc len) climb = (omega arith, climb.1, climb.2)

-- a message in a range of numbers that are remembered is found
found-in : (low len n : ℕ) (rs : List Remembered) → filter_map number_of rs ≡ range_with_len low len → low ≤ n → n < low + len → is_some (find (is_of n) rs) ≡ true
found-in low zero n [] same from below = absurd (omega arith)
found-in low (suc len) n [] same from below = absurd cc
found-in low len n (r ∷ rs) same from below = by (number_of r) refl len same below (λ low len same from below. found-in low len n rs same from below)
  where
    by : (o : Option ℕ) → number_of r ≡ o → (len : ℕ) → cons_option o (filter_map number_of rs) ≡ range_with_len low len → n < low + len
        → ((low len : ℕ) → filter_map number_of rs ≡ range_with_len low len → low ≤ n → n < low + len → is_some (find (is_of n) rs) ≡ true)
        → is_some (find (is_of n) (r ∷ rs)) ≡ true
    by None none len same below later = rw (unnumbered n r none) (later low len same from below)
    by (Some k) own zero same below later = absurd (omega arith)
    by (Some k) own (suc len) same below later =
        let first : k ≡ low = cc in
        let rest : filter_map number_of rs ≡ range_with_len (low + 1) len = cc in
        elim (eqb_tells n k) [
          | inl w ↦ let at : is_of n r ≡ true = subst (λ (m : ℕ). is_of m r ≡ true) (sym w.1) (numbered-own k r own) in rw at refl
          | inr w ↦ let apart = w.1 in rw (numbered-else n k r own apart) (later (low + 1) len rest (past apart first) (omega arith))
        ]
      where
        past : n ≢ k → k ≡ low → low + 1 ≤ n
        past apart first = let differs : n ≢ low = λ e. apart (e ∙ sym first) in omega arith

module _ (o : Snapshot) where
  there : (q : Option Remembered) → is_some (option_map accepted_of q) ≡ is_some q
  there None = refl
  there (Some r) = refl

  -- where they have the last numbers, one that arrived after one that is remembered is remembered
  pub last-turn : AreLast o.messages (filter_map number_of o.remembered) → (n m : ℕ) → n ≤ m → m < o.messages
      → is_some (message_at (begun o) n) ≡ true → is_some (message_at (begun o) m) ≡ true
  last-turn last n m less below here =
      let few = last.few in
      let first : ℕ = o.messages - length (filter_map number_of o.remembered) in
      let climb = last-climb o.messages (filter_map number_of o.remembered) last in
      let found : is_some (remembered_as o n) ≡ true = sym (there (remembered_as o n)) ∙ (sym (ap is_some (message-begun o climb n (omega arith))) ∙ here) in
      ap is_some (message-begun o climb m below)
      ∙ (there (remembered_as o m) ∙ elim (lt-tells n first) [
        | inl w ↦
            let none : remembered_as o n ≡ None = none-lower n first o.messages o.remembered w.1
            (subst (Climbing first o.messages) (sym last.last) (range-climbs first (length (filter_map number_of o.remembered)) o.messages (omega arith))) in
            let gone : is_some (remembered_as o n) ≡ false = ap is_some none in absurd cc
        | inr w ↦ let from = w.1 in found-in first (length (filter_map number_of o.remembered)) m o.remembered last.last (omega arith) (omega arith)
      ])

  last-range : (p : ℕ → Bool) (a k : ℕ) → ((n m : ℕ) → n ≤ m → m < a + k → p n ≡ true → p m ≡ true)
      → filter p (range_with_len a k) ≡ range_with_len ((a + k) - length (filter p (range_with_len a k))) (length (filter p (range_with_len a k)))
  last-range p a zero turn = refl
  last-range p a (suc k) turn = by (p a) refl (λ fewer. last-range p (a + 1) k fewer)
    where
      by : (b : Bool) → p a ≡ b
          → (((n m : ℕ) → n ≤ m → m < (a + 1) + k → p n ≡ true → p m ≡ true)
          → filter p (range_with_len (a + 1) k) ≡ range_with_len (((a + 1) + k) - length (filter p (range_with_len (a + 1) k))) (length (filter p (range_with_len (a + 1) k))))
          → filter p (range_with_len a (suc k)) ≡ range_with_len ((a + suc k) - length (filter p (range_with_len a (suc k)))) (length (filter p (range_with_len a (suc k))))
      by true is rest =
          let whole : filter p (range_with_len a (suc k)) ≡ range_with_len a (suc k) = filter-whole p a (suc k) (λ m low high. turn a m low high is) in
          let many : length (range_with_len a (suc k)) ≡ suc k = length-range_with_len a (suc k) in
          let first : (a + suc k) - suc k ≡ a = omega arith in
          subst (λ ns. ns ≡ range_with_len ((a + suc k) - length ns) (length ns)) (sym whole)
          (subst (λ l. range_with_len a (suc k) ≡ range_with_len ((a + suc k) - l) l) (sym many)
          (ap (λ f. range_with_len f (suc k)) (sym first)))
      by false is rest =
          let next : (a + 1) + k ≡ a + suc k = omega arith in
          let same : filter p (range_with_len (a + 1) k) ≡ filter p (range_with_len a (suc k)) = rw is refl in
          subst (λ ns. ns ≡ range_with_len ((a + suc k) - length ns) (length ns)) same
          (subst (λ e. filter p (range_with_len (a + 1) k) ≡ range_with_len (e - length (filter p (range_with_len (a + 1) k))) (length (filter p (range_with_len (a + 1) k)))) next
          (rest (λ n m less below passes. turn n m less (omega arith) passes)))

  module _ (climb : Climbing 0 o.messages (filter_map number_of o.remembered)) where
    there-or-gone : (ns : List ℕ) → count_by (λ n. is_none (message_at (begun o) n)) ns + count_by (λ n. is_some (message_at (begun o) n)) ns ≡ length ns
    there-or-gone [] = refl
    there-or-gone (n ∷ ns) =
        let rest = there-or-gone ns in
        let here = by (message_at (begun o) n) in
        omega (arith, sum_by-cons (λ n. cond (is_none (message_at (begun o) n)) 1 0) n ns, sum_by-cons (λ n. cond (is_some (message_at (begun o) n)) 1 0) n ns)
      where
        by : (m : Option Accepted) → cond (is_none m) 1 0 + cond (is_some m) 1 0 ≡ 1
        by None = refl
        by (Some m) = refl

    -- as many messages are forgotten as aren't remembered
    pub forgotten-begun : forgotten_messages (begun o) + length (filter_map number_of o.remembered) ≡ o.messages
    forgotten-begun =
        let whole = there-or-gone (numbers (begun o)) in
        let left = length-filter (λ n. is_some (message_at (begun o) n)) (numbers (begun o)) in
        let is = ap length (remaining-begun o climb) in
        omega (arith, length-range_with_len 0 (o.messages + 0))

    -- where one that arrived after one that is remembered is remembered, they have the last numbers
    pub turn-last : ((n m : ℕ) → n ≤ m → m < o.messages → is_some (message_at (begun o) n) ≡ true → is_some (message_at (begun o) m) ≡ true)
        → AreLast o.messages (filter_map number_of o.remembered)
    turn-last turn =
        let is = remaining-begun o climb in
        let end : 0 + (o.messages + 0) ≡ o.messages = omega arith in
        let fits = forgotten-begun in
        let range = last-range (λ n. is_some (message_at (begun o) n)) 0 (o.messages + 0) (λ n m less below passes. turn n m less (omega arith) passes) in record {
          few = omega arith;
          last = subst (λ (e : ℕ). filter_map number_of o.remembered ≡ range_with_len (e - length (filter_map number_of o.remembered)) (length (filter_map number_of o.remembered))) end
              (subst (λ (ns : List ℕ). ns ≡ range_with_len ((0 + (o.messages + 0)) - length ns) (length ns)) is range);
        }
