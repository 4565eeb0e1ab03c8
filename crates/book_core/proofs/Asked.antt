-- What is asked of a history, found beside it.
use Rattle.std.proofs.Common.{◌≡◌, ℕ, ◌+◌, ◌-◌, ◌<◌, ◌≤◌, Bool, true, false, cond, nat_lt, List, [], ◌∷◌, ◌++◌, length, Option, None, Some, refl, sym, ◌∙◌, ap, subst, arith, suc, zero, inl, inr}
use Rattle.std.specs.Prelude.{filter, find, is_some, option_and_then, slice_get}
use Rattle.std.specs.List.{filter_map, cons_option, range_with_len}
use Rattle.std.specs.Option.{option_map, option_map_or}
use Rattle.std.proofs.lemmas.List.Elements.{filter-append, filter_map-append}
use Rattle.std.proofs.lemmas.List.FromFn.{length-range_with_len}
use Rattle.row_store.specs.declared.Row.{Row}
use Rattle.row_store.specs.Rows.{item_at}
use Rattle.dest_queue.specs.declared.SlotState.{SlotState}
use Rattle.dest_queue.specs.declared.slots.Queued.{Queued}
use Rattle.dest_queue.specs.inner.Queues.{front_state}
use Rattle.dest_queue.specs.States.{is_live}
use Rattle.event_log.specs.declared.refusal.PruneRefusal.TheVariants.{TooMany}
use Rattle.event_log.specs.Folding.{is_live_message, prune_answer}
use Rattle.event_log.specs.History.{History, is_queued, message_at, message_count, queue, remaining, slot}
use Rattle.event_log.specs.inner.Legal.{IsSound}
use Rattle.event_log.proofs.FoldedAlike.{range-split}
use Rattle.event_log.proofs.Forgetting.{in-turn}
use Rattle.event_log.proofs.OneMore.{lt-tells}
use Rattle.event_log.proofs.Reading.{queue-outside}
use Rattle.book_core.specs.declared.letter.Outbound.{Outbound}
use Rattle.book_core.specs.declared.questions.Front.{Front}
use Rattle.book_core.specs.inner.Parts.{RowsAgree}
use Rattle.book_core.specs.inner.Questions.{came_as, first_live, front_at, queued_as, standing}
use Rattle.book_core.proofs.FirstLive.{settled-below}
use Rattle.book_core.proofs.PrunedRows.{filter-whole, length-numbers}
use Rattle.book_core.proofs.Rows.{kept-front_state, row-of}

-- ---- one number more

pub more-mapped : {A : Type 0} (p : ℕ → Option A) (a k : ℕ) → filter_map p (range_with_len a (k + 1)) ≡ filter_map p (range_with_len a k) ++ cons_option (p (a + k)) []
more-mapped p a k = ap (filter_map p) (range-split a k 1) ∙ filter_map-append p (range_with_len a k) (range_with_len (a + k) 1)

pub more-filtered : (p : ℕ → Bool) (a k : ℕ) → filter p (range_with_len a (k + 1)) ≡ filter p (range_with_len a k) ++ cond (p (a + k)) ((a + k) ∷ []) []
more-filtered p a k = ap (filter p) (range-split a k 1) ∙ filter-append p (range_with_len a k) (range_with_len (a + k) 1)

append-nil : {A : Type 0} (xs : List A) → xs ++ [] ≡ xs
append-nil [] = refl
append-nil (x ∷ xs) = ap (λ ys. x ∷ ys) (append-nil xs)

module _ {A : Type 0} (p : ℕ → Option A) (a n : ℕ) (from : a ≤ n) where
  next-mapped : (o : Option A) → p n ≡ o → filter_map p (range_with_len a (n - a)) ++ cons_option o [] ≡ filter_map p (range_with_len a (n + 1 - a))
  next-mapped o is =
      let here : a + (n - a) ≡ n = omega arith in
      let next : n + 1 - a ≡ (n - a) + 1 = omega arith in
      sym (ap (λ k. filter_map p (range_with_len a k)) next
      ∙ (more-mapped p a (n - a) ∙ ap (λ o. filter_map p (range_with_len a (n - a)) ++ cons_option o []) (ap p here ∙ is)))

  pub one-mapped : (x : A) → p n ≡ Some x → filter_map p (range_with_len a (n - a)) ++ x ∷ [] ≡ filter_map p (range_with_len a (n + 1 - a))
  one-mapped x is = next-mapped (Some x) is

  pub none-mapped : p n ≡ None → filter_map p (range_with_len a (n - a)) ≡ filter_map p (range_with_len a (n + 1 - a))
  none-mapped is = sym (append-nil (filter_map p (range_with_len a (n - a)))) ∙ next-mapped None is

module _ (p : ℕ → Bool) (a n : ℕ) (from : a ≤ n) where
  next-filtered : (b : Bool) → p n ≡ b → filter p (range_with_len a (n - a)) ++ cond b (n ∷ []) [] ≡ filter p (range_with_len a (n + 1 - a))
  next-filtered b is =
      let here : a + (n - a) ≡ n = omega arith in
      let next : n + 1 - a ≡ (n - a) + 1 = omega arith in
      sym (ap (λ k. filter p (range_with_len a k)) next
      ∙ (more-filtered p a (n - a)
      ∙ (ap (λ m. filter p (range_with_len a (n - a)) ++ cond (p m) (m ∷ []) []) here
      ∙ ap (λ b. filter p (range_with_len a (n - a)) ++ cond b (n ∷ []) []) is)))

  pub one-filtered : p n ≡ true → filter p (range_with_len a (n - a)) ++ n ∷ [] ≡ filter p (range_with_len a (n + 1 - a))
  one-filtered is = next-filtered true is

  pub none-filtered : p n ≡ false → filter p (range_with_len a (n - a)) ≡ filter p (range_with_len a (n + 1 - a))
  none-filtered is = sym (append-nil (filter p (range_with_len a (n - a)))) ∙ next-filtered false is

-- ---- what is still to be delivered

-- a message is queued where it is found with its state there
pub queued-some : (h : History) (d n : ℕ) → is_queued h d n ≡ is_some (queued_as h d n)
queued-some h d n = by (slot h n d)
  where
    live : (s : SlotState) (b : Bool) → b ≡ is_some {T = Front} (cond b (Some (standing n s)) None)
    live s true = refl
    live s false = refl

    by : (o : Option SlotState) → option_map_or is_live o false ≡ is_some (option_and_then (λ s. cond (is_live s) (Some (standing n s)) None) o)
    by None = refl
    by (Some s) = live s (is_live s)

module _ (h : History) (rows : List (Row (Queued Outbound))) (agree : RowsAgree h rows) (d : ℕ) (within : d < 32) where
  fronted : (o : Option ℕ) → option_map {U = Front} (λ (p : ℕ × SlotState). standing p.0 p.1) (option_and_then {U = ℕ × SlotState} (λ n. option_map {U = ℕ × SlotState} (λ state. (n, state)) (slot h n d)) o)
      ≡ option_and_then (λ n. option_map (standing n) (slot h n d)) o
  fronted None = refl
  fronted (Some n) = by (slot h n d)
    where
      by : (s : Option SlotState) → option_map {U = Front} (λ (p : ℕ × SlotState). standing p.0 p.1) (option_map {U = ℕ × SlotState} (λ state. (n, state)) s) ≡ option_map (standing n) s
      by None = refl
      by (Some state) = refl

  front-said : option_map {U = Front} (λ (p : ℕ × SlotState). standing p.0 p.1) (front_state d rows) ≡ front_at h d
  front-said = ap (option_map (λ (p : ℕ × SlotState). standing p.0 p.1)) (kept-front_state h rows agree d within) ∙ fronted (slice_get (queue h d) 0)

  pub front-none : front_state d rows ≡ None → front_at h d ≡ None
  front-none is = sym front-said ∙ ap (option_map (λ (p : ℕ × SlotState). standing p.0 p.1)) is

  pub front-some : (n : ℕ) (s : SlotState) → front_state d rows ≡ Some (n, s) → front_at h d ≡ Some (standing n s)
  front-some n s is = sym front-said ∙ ap (option_map (λ (p : ℕ × SlotState). standing p.0 p.1)) is

pub front-past : (h : History) → IsSound h → (d : ℕ) → 32 ≤ d → front_at h d ≡ None
front-past h sound d past = ap (λ (q : List ℕ). option_and_then (λ n. option_map (standing n) (slot h n d)) (slice_get q 0)) (queue-outside h sound d past)

-- ---- what can be forgotten

-- no number before the one that is found passes
find-before : (p : ℕ → Bool) (a k n : ℕ) → a ≤ n → n < option_map_or (λ m. m) (find p (range_with_len a k)) (a + k) → p n ≡ false
find-before p a zero n from below = absurd (omega (arith, from, below))
find-before p a (suc k) n from below = by (p a) refl (λ low. find-before p (a + 1) k n low) below
  where
    by : (b : Bool) → p a ≡ b
        → (a + 1 ≤ n → n < option_map_or (λ m. m) (find p (range_with_len (a + 1) k)) ((a + 1) + k) → p n ≡ false)
        → n < option_map_or (λ m. m) (cond b (Some a) (find p (range_with_len (a + 1) k))) (a + suc k) → p n ≡ false
    by true is rest low = absurd (omega (arith, from, low))
    by false is rest low = elim (lt-tells a n) [
      | inl w ↦
          let past = w.1 in
          let next : a + suc k ≡ (a + 1) + k = omega arith in
          rest (omega arith) (subst (λ e. n < option_map_or (λ m. m) (find p (range_with_len (a + 1) k)) e) next low)
      | inr w ↦ let least = w.1 in let same : n ≡ a = omega arith in ap p same ∙ is
    ]

-- the number before which all is settled
abbrev pub settled : History → ℕ
settled h = option_map_or (λ n. n) (first_live h) (message_count h)

found-within : (p : ℕ → Bool) (a k : ℕ) → option_map_or (λ n. n) (find p (range_with_len a k)) (a + k) ≤ a + k
found-within p a zero = omega arith
found-within p a (suc k) = by (p a) (found-within p (a + 1) k)
  where
    by : (b : Bool) → option_map_or (λ n. n) (find p (range_with_len (a + 1) k)) ((a + 1) + k) ≤ (a + 1) + k
        → option_map_or (λ n. n) (cond b (Some a) (find p (range_with_len (a + 1) k))) (a + suc k) ≤ a + suc k
    by true rest = omega arith
    by false rest =
        let next : (a + 1) + k ≡ a + suc k = omega arith in
        subst (λ e. option_map_or (λ n. n) (find p (range_with_len (a + 1) k)) e ≤ e) next rest

module _ (h : History) (b : ℕ) (few : b ≤ settled h) where
  own : 0 + message_count h ≡ message_count h
  own = omega arith

  within : settled h ≤ message_count h
  within = subst (λ e. option_map_or (λ n. n) (find (is_live_message h) (range_with_len 0 (message_count h))) e ≤ e) own (found-within (is_live_message h) 0 (message_count h))

  -- nothing below is still to be delivered
  pub settled-all : (n : ℕ) → n < b → is_live_message h n ≡ false
  settled-all n below =
      find-before (is_live_message h) 0 (message_count h) n (omega arith)
      (subst (λ e. n < option_map_or (λ m. m) (find (is_live_message h) (range_with_len 0 (message_count h))) e) (sym own) (omega (arith, below, few)))

  past : (o : Option ℕ) → first_live h ≡ o → (n : ℕ) → o ≡ Some n → b ≤ n
  past o is n found =
      let end : settled h ≡ n = ap (λ o. option_map_or (λ n. n) o (message_count h)) (is ∙ found) in
      omega (arith, few, end)

  -- so that only the number of prunings speaks against forgetting them
  pub settled-answer : prune_answer h b ≡ cond (nat_lt h.opening.prunings 1000) None (Some TooMany)
  settled-answer = settled-below h b (omega (arith, few, within)) (first_live h) refl (past (first_live h) refl)

-- ---- what is remembered

module _ (h : History) (rows : List (Row (Queued Outbound))) (agree : RowsAgree h rows) (n : ℕ) where
  came-kept : option_map came_as (option_map {U = Outbound} (λ (a : Queued Outbound). a.content) (item_at n rows)) ≡ message_at h n
  came-kept = elim (row-of h rows agree n) [
    | inl w ↦ ap (λ (o : Option (Queued Outbound)). option_map came_as (option_map {U = Outbound} (λ (a : Queued Outbound). a.content) o)) w.3
        ∙ (sym w.2.came ∙ ap (message_at h) w.1)
    | inr w ↦ ap (λ (o : Option (Queued Outbound)). option_map came_as (option_map {U = Outbound} (λ (a : Queued Outbound). a.content) o)) w.0
        ∙ sym w.1
  ]

  pub came-row : (a : Queued Outbound) → item_at n rows ≡ Some a → Some (came_as a.content) ≡ message_at h n
  came-row a is = sym (ap (λ (o : Option (Queued Outbound)). option_map came_as (option_map {U = Outbound} (λ (a : Queued Outbound). a.content) o)) is) ∙ came-kept

  pub came-none : item_at n rows ≡ None → None ≡ message_at h n
  came-none is = sym (ap (λ (o : Option (Queued Outbound)). option_map came_as (option_map {U = Outbound} (λ (a : Queued Outbound). a.content) o)) is) ∙ came-kept

-- where each number past one that passes does too, those that pass are the last ones
last-range : (p : ℕ → Bool) (a k : ℕ) → ((n m : ℕ) → n ≤ m → m < a + k → p n ≡ true → p m ≡ true)
    → filter p (range_with_len a k) ≡ range_with_len ((a + k) - length (filter p (range_with_len a k))) (length (filter p (range_with_len a k)))
last-range p a zero turn = refl
last-range p a (suc k) turn = by (p a) refl (λ fewer. last-range p (a + 1) k fewer)
  where
    by : (b : Bool) → p a ≡ b
        → (((n m : ℕ) → n ≤ m → m < (a + 1) + k → p n ≡ true → p m ≡ true)
        → filter p (range_with_len (a + 1) k) ≡ range_with_len (((a + 1) + k) - length (filter p (range_with_len (a + 1) k))) (length (filter p (range_with_len (a + 1) k))))
        → filter p (range_with_len a (suc k)) ≡ range_with_len ((a + suc k) - length (filter p (range_with_len a (suc k)))) (length (filter p (range_with_len a (suc k))))
    by true is rest =
        let whole : filter p (range_with_len a (suc k)) ≡ range_with_len a (suc k) = filter-whole p a (suc k) (λ m low high. turn a m low high is) in
        let many : length (range_with_len a (suc k)) ≡ suc k = length-range_with_len a (suc k) in
        let first : (a + suc k) - suc k ≡ a = omega arith in
        subst (λ ns. ns ≡ range_with_len ((a + suc k) - length ns) (length ns)) (sym whole)
        (subst (λ l. range_with_len a (suc k) ≡ range_with_len ((a + suc k) - l) l) (sym many)
        (ap (λ f. range_with_len f (suc k)) (sym first)))
    by false is rest =
        let next : (a + 1) + k ≡ a + suc k = omega arith in
        let same : filter p (range_with_len (a + 1) k) ≡ filter p (range_with_len a (suc k)) = rw is refl in
        subst (λ ns. ns ≡ range_with_len ((a + suc k) - length ns) (length ns)) same
        (subst (λ e. filter p (range_with_len (a + 1) k) ≡ range_with_len (e - length (filter p (range_with_len (a + 1) k))) (length (filter p (range_with_len (a + 1) k)))) next
        (rest (λ n m less below passes. turn n m less (omega arith) passes)))

-- the messages that are not forgotten are the last ones
pub remaining-last : (h : History) (rows : List (Row (Queued Outbound))) (first : ℕ) → IsSound h → RowsAgree h rows → first + length rows ≡ message_count h
    → remaining h ≡ range_with_len first (message_count h - first)
remaining-last h rows first sound agree counted =
    let own : 0 + message_count h ≡ message_count h = omega arith in
    let many : length (remaining h) ≡ length rows = ap length (sym agree.each_once) ∙ length-numbers rows in
    let start : (0 + message_count h) - length (remaining h) ≡ first = omega (arith, many, counted) in
    let rest : length (remaining h) ≡ message_count h - first = omega (arith, many, counted) in
    last-range (λ n. is_some (message_at h n)) 0 (message_count h) turn
    ∙ (ap (λ a. range_with_len a (length (remaining h))) start ∙ ap (range_with_len first) rest)
  where
    turn : (n m : ℕ) → n ≤ m → m < 0 + message_count h → is_some (message_at h n) ≡ true → is_some (message_at h m) ≡ true
    turn n m less below there = in-turn h sound n m less (omega arith) there
