-- A pruned history is alike the one that was pruned, but for what was forgotten.
use Rattle.std.proofs.Common.{◌≡◌, ℕ, ◌+◌, ◌-◌, ◌<◌, ◌≤◌, inl, inr, Bool, true, false, cond, not, ◌||◌, nat_lt, List, [], ◌∷◌, ◌++◌, map, Option, None, Some, refl, sym, ◌∙◌, ap, subst, arith, suc, zero}
use Rattle.std.specs.Prelude.{count_by, filter, find, slice_get}
use Rattle.std.specs.List.{AllByRecursion, cons_option, list_any, position, range_with_len}
use Rattle.std.specs.Option.{option_map, option_map_or}
use Rattle.std.proofs.lemmas.Bool.Decides.{eqb_tells, nat_tests}
use Rattle.std.proofs.lemmas.List.FromFn.{get_or-map-range_with_len}
use Rattle.std.proofs.lemmas.List.Sums.{sum_by-append, sum_by-cons}
use Rattle.std.proofs.lemmas.Option.{slice_get_past}
use Rattle.judge_core.specs.declared.delivery.Delivery.{Delivery}
use Rattle.dest_queue.specs.declared.SlotState.{SlotState}
use Rattle.dest_queue.specs.declared.SlotState.TheVariants.{Waiting, InFlight, Delivered, Failed}
use Rattle.dest_queue.specs.Slots.{state_at}
use Rattle.dest_queue.specs.States.{is_live, is_waiting}
use Rattle.stat_count.specs.declared.ChannelCounts.{ChannelCounts}
use Rattle.stat_count.specs.Statistics.{channel_at, destination_at, no_arrivals, no_slots}
use Rattle.event_log.specs.declared.entry.Entry.{Entry}
use Rattle.event_log.specs.declared.entry.Entry.TheVariants.{Arrival, Take, Settle, Cancel, Deploy}
use Rattle.event_log.specs.declared.entry.Told.{Told}
use Rattle.event_log.specs.declared.entry.Told.TheVariants as told
use Rattle.event_log.specs.declared.refusal.PruneRefusal.TheVariants.{NoSuchMessage, StillLive, TooMany}
use Rattle.event_log.specs.Alike.{IsAlike, forgotten_by}
use Rattle.event_log.specs.Answers.{brings, brings_at, has_key, is_kept, keeps, known}
use Rattle.event_log.specs.Counting.{channel_counts, destination_before, destination_counts, is_delivered, is_failed, slot_count}
use Rattle.event_log.specs.Folding.{known_arrivals, folded, forgotten, forgotten_at, forgotten_count, goes_with, is_forgotten, is_live_message, prune_answer, pruned, recalled, told_deliveries, told_slots}
use Rattle.std.specs.Str.{bytes_eq}
use Rattle.event_log.specs.History.{Accepted, History, Remembered, deliveries, entry_at, is_numbered, is_queued, message_at, message_count, accepted_of, names, next_place, queue, remembered_as, slot, state}
use Rattle.event_log.specs.inner.Legal.{IsSound}
use Rattle.event_log.specs.Room.{is_in_flight}
use Rattle.event_log.proofs.OneMore.{count-range, filter-range, lt-tells}
use Rattle.event_log.proofs.Reading.{message-beyond, slot-outside}
use Rattle.event_log.proofs.Recalling.{arrivals-are, find-dropped, find-kept, is_of, recalled-message, recalled_all, renewed, what_came, what_is}
use Rattle.event_log.proofs.RecallingKeys.{arrivals-rise, brings-arrival, find-remaining, found-brought, known-arrivals, or-none, rising-filter}

-- ---- what no refusal says

-- nothing is found: no number passes
find-none : (p : ℕ → Bool) (a k : ℕ) → find p (range_with_len a k) ≡ None → (n : ℕ) → a ≤ n → n < a + k → p n ≡ false
find-none p a zero none n low high = absurd (omega arith)
find-none p a (suc k) none n low high = elim (p a) as (λ b. p a ≡ b → cond b (Some a) (find p (range_with_len (a + 1) k)) ≡ None → p n ≡ false) [
  | true ↦ λ is e. absurd cc
  | false ↦ λ is e. elim (eqb_tells n a) [ inl w ↦ ap p w.1 ∙ is | inr w ↦ let apart = w.1 in find-none p (a + 1) k e n (omega arith) (omega arith) ]
] refl none

any-none : (p : ℕ → Bool) (a k : ℕ) → list_any p (range_with_len a k) ≡ false → (n : ℕ) → a ≤ n → n < a + k → p n ≡ false
any-none p a zero none n low high = absurd (omega arith)
any-none p a (suc k) none n low high = elim (p a) as (λ b. p a ≡ b → (b || list_any p (range_with_len (a + 1) k)) ≡ false → p n ≡ false) [
  | true ↦ λ is e. absurd cc
  | false ↦ λ is e. elim (eqb_tells n a) [ inl w ↦ ap p w.1 ∙ is | inr w ↦ let apart = w.1 in any-none p (a + 1) k e n (omega arith) (omega arith) ]
] refl none

-- the messages that are to be forgotten came, and none of them is still to be delivered
may-parts : (h : History) (bound : ℕ) → prune_answer h bound ≡ None → (bound ≤ message_count h) × (find (is_live_message h) (range_with_len 0 bound) ≡ None)
unfolding prune_answer
may-parts h bound is = elim (lt-tells (message_count h) bound) [
  | inl w ↦ let no = ap (λ b. cond b (Some NoSuchMessage) (option_map_or (λ n. Some (StillLive n)) (find (is_live_message h) (range_with_len 0 bound)) (cond (nat_lt h.opening.prunings 1000) None (Some TooMany)))) (sym w.0) ∙ is in absurd cc
  | inr w ↦ (
    w.1,
    by (find (is_live_message h) (range_with_len 0 bound))
        (ap (λ b. cond b (Some NoSuchMessage) (option_map_or (λ n. Some (StillLive n)) (find (is_live_message h) (range_with_len 0 bound)) (cond (nat_lt h.opening.prunings 1000) None (Some TooMany)))) (sym w.0) ∙ is),
  )
]
  where
    by : (o : Option ℕ) → option_map_or (λ n. Some (StillLive n)) o (cond (nat_lt h.opening.prunings 1000) None (Some TooMany)) ≡ None → o ≡ None
    by None e = refl
    by (Some n) e = absurd cc

-- ---- what is found

pub numbered-told : (n : ℕ) (t : Told) → is_numbered n t ≡ true → t ≡ told.Accepted n
numbered-told n (told.Accepted j) is = elim (eqb_tells j n) [ inl w ↦ ap (λ x. told.Accepted x) w.1 | inr w ↦ absurd cc ]
numbered-told n told.Filtered is = absurd cc
numbered-told n (told.Refused cause) is = absurd cc
numbered-told n (told.Repeat place) is = absurd cc

pub found-passes : (p : Remembered → Bool) (rs : List Remembered) (r : Remembered) → find p rs ≡ Some r → p r ≡ true
found-passes p [] r is = absurd cc
found-passes p (x ∷ rs) r is = elim (p x) as (λ b. p x ≡ b → cond b (Some x) (find p rs) ≡ Some r → p r ≡ true) [
  | true ↦ λ passes e. let same : x ≡ r = cc in subst (λ y. p y ≡ true) same passes
  | false ↦ λ fails e. found-passes p rs r e
] refl is

pub found-holds : (p : Remembered → Bool) (Q : Remembered → Type 0) (rs : List Remembered) (r : Remembered) → AllByRecursion Q rs → find p rs ≡ Some r → Q r
found-holds p Q [] r all is = absurd cc
found-holds p Q (x ∷ rs) r all is = elim (p x) as (λ b. cond b (Some x) (find p rs) ≡ Some r → Q r) [
  | true ↦ λ e. let same : x ≡ r = cc in subst Q same all.0
  | false ↦ λ e. found-holds p Q rs r all.1 e
] is

-- each arrival that is kept is as it is remembered from now on
abbrev IsRenewed : History → Remembered → Type 0
IsRenewed h r = renewed h r ≡ r

renewed-map : (h : History) (rs : List Remembered) → AllByRecursion (IsRenewed h) (map (renewed h) rs)
renewed-map h [] = tt
renewed-map h (r ∷ rs) = (refl, renewed-map h rs)

renewed-entries : (h : History) (a : ℕ) (es : List Entry) → AllByRecursion (IsRenewed h) (recalled_all h a es)
renewed-entries h a [] = tt
renewed-entries h a (Arrival conn channel raw reply ∷ es) = by (is_kept reply) (renewed-entries h (a + 1) es)
  where
    by : (b : Bool) → AllByRecursion (IsRenewed h) (recalled_all h (a + 1) es) → AllByRecursion (IsRenewed h) (cons_option (cond b (Some (recalled h a channel raw reply)) None) (recalled_all h (a + 1) es))
    by true rest = (refl, rest)
    by false rest = rest
renewed-entries h a (Take ticket now ∷ es) = renewed-entries h (a + 1) es
renewed-entries h a (Settle outcome ticket now state ∷ es) = renewed-entries h (a + 1) es
renewed-entries h a (Cancel number among mask ∷ es) = renewed-entries h (a + 1) es
renewed-entries h a (Deploy plan ∷ es) = renewed-entries h (a + 1) es

pub all-append : (Q : Remembered → Type 0) (xs ys : List Remembered) → AllByRecursion Q xs → AllByRecursion Q ys → AllByRecursion Q (xs ++ ys)
all-append Q [] ys all more = more
all-append Q (x ∷ xs) ys all more = (all.0, all-append Q xs ys all.1 more)

renewed-all : (h : History) → AllByRecursion (IsRenewed h) (known_arrivals h)
renewed-all h =
    subst (AllByRecursion (IsRenewed h)) (sym (arrivals-are h))
    (all-append (IsRenewed h) (map (renewed h) h.opening.remembered) (recalled_all h h.opening.places h.entries) (renewed-map h h.opening.remembered) (renewed-entries h h.opening.places h.entries))

-- ---- counts and states

pub count-none : (xs : List ℕ) → count_by (λ n. false) xs ≡ 0
count-none [] = refl
count-none (x ∷ xs) = let rest = count-none xs in omega (arith, sum_by-cons (λ n. cond false 1 0) x xs)

pub range-split : (a k j : ℕ) → range_with_len a (k + j) ≡ range_with_len a k ++ range_with_len (a + k) j
range-split a zero j = let none : 0 + j ≡ j = omega arith in let own : a + 0 ≡ a = omega arith in rw (none, own) refl
range-split a (suc k) j =
    let more : suc k + j ≡ suc (k + j) = omega arith in
    let next : a + suc k ≡ a + 1 + k = omega arith in
    rw (more, next) (ap (λ xs. a ∷ xs) (range-split (a + 1) k j))

-- a count where the numbers below a bound count no more
pub count-split : (p q : ℕ → Bool) (bound count : ℕ) → bound ≤ count → ((n : ℕ) → n < bound → q n ≡ false) → ((n : ℕ) → bound ≤ n → q n ≡ p n)
    → count_by p (range_with_len 0 bound) + count_by q (range_with_len 0 count) ≡ count_by p (range_with_len 0 count)
count-split p q bound count few none same =
    let split : range_with_len 0 count ≡ range_with_len 0 bound ++ range_with_len bound (count - bound)
    = (let whole : bound + (count - bound) ≡ count = omega arith in let from : 0 + bound ≡ bound = omega arith in
    ap (λ k. range_with_len 0 k) (sym whole) ∙ (range-split 0 bound (count - bound) ∙ ap (λ a. range_with_len 0 bound ++ range_with_len a (count - bound)) from)) in
    let lower : count_by q (range_with_len 0 bound) ≡ 0 = count-range q (λ n. false) 0 bound (λ n low below. none n (omega arith)) ∙ count-none (range_with_len 0 bound) in
    let upper : count_by q (range_with_len bound (count - bound)) ≡ count_by p (range_with_len bound (count - bound)) = count-range q p bound (count - bound) (λ n low below. same n low) in
    rw split (omega (
      arith,
      lower,
      upper,
      sum_by-append (λ n. cond (p n) 1 0) (range_with_len 0 bound) (range_with_len bound (count - bound)),
      sum_by-append (λ n. cond (q n) 1 0) (range_with_len 0 bound) (range_with_len bound (count - bound)),
    ))

-- the state that slots have at a destination that deliveries name
state-named : (f : ℕ → SlotState) (d : ℕ) (ds : List Delivery) → names d ds ≡ true → state_at d (map (λ x. record { destination = x.destination; state = f x.destination }) ds) ≡ Some (f d)
state-named f d [] is = absurd cc
state-named f d (x ∷ ds) is = elim (eqb_tells x.destination d) [
  | inl w ↦ rw w.0 (ap (λ k. Some (f k)) w.1)
  | inr w ↦ rw w.0 (state-named f d ds (ap (λ b. b || names d ds) (sym w.0) ∙ is))
]

cond-same : (b : Bool) (s t : SlotState) → (b ≡ true → s ≡ t) → cond b (Some s) None ≡ cond b (Some t) None
cond-same true s t same = ap (λ x. Some x) (same refl)
cond-same false s t same = refl

counts-zero : (counts : ChannelCounts) → record { received = counts.received + 0; filtered = counts.filtered + 0; accepted = counts.accepted + 0; refused = counts.refused + 0; repeats = counts.repeats + 0 } ≡ counts
counts-zero counts = λ i. record { received = none counts.received i; filtered = none counts.filtered i; accepted = none counts.accepted i; refused = none counts.refused i; repeats = none counts.repeats i }
  where
    none : (n : ℕ) → n + 0 ≡ n
    none n = omega arith

-- ---- the law

module _ (h : History) (sound : IsSound h) (bound : ℕ) (may : prune_answer h bound ≡ None) where
  pub few : bound ≤ message_count h
  few = (may-parts h bound may).0

  -- no forgotten message stands in a queue
  pub quiet : (n d : ℕ) → n < bound → is_queued h d n ≡ false
  quiet n d below = elim (lt-tells d 32) [
    | inl w ↦
        let inside = w.1 in
        any-none (λ e. is_queued h e n) 0 32 (find-none (is_live_message h) 0 bound (may-parts h bound may).1 n (omega arith) (omega arith)) d (omega arith) (omega arith)
    | inr w ↦ ap (λ o. option_map_or is_live o false) (slot-outside h sound n d w.1)
  ]

  -- whether the arrival of message n is forgotten
  goes : (n : ℕ) (r : Remembered) → is_of n r ≡ true → is_forgotten h bound r ≡ nat_lt n bound
  goes n r is = ap (goes_with h bound r.place) (numbered-told n r.told is)

  pub remains-of : (n : ℕ) → bound ≤ n → remembered_as (folded bound h) n ≡ find (is_of n) (known_arrivals h)
  remains-of n from =
      let no : nat_lt n bound ≡ false = grind (arith, nat_tests) in
      find-kept (is_of n) (λ r. not (is_forgotten h bound r)) (λ r is. ap not (goes n r is ∙ no)) (known_arrivals h)

  gone-of : (n : ℕ) → n < bound → remembered_as (folded bound h) n ≡ None
  gone-of n below =
      let yes : nat_lt n bound ≡ true = grind (arith, nat_tests) in
      find-dropped (is_of n) (λ r. not (is_forgotten h bound r)) (λ r is. ap not (goes n r is ∙ yes)) (known_arrivals h)

  -- an arrival that is found is that of its message
  found-deliveries : (n : ℕ) (r : Remembered) → find (is_of n) (known_arrivals h) ≡ Some r → r.deliveries ≡ deliveries h n
  found-deliveries n r is =
      let own = found-holds (is_of n) (IsRenewed h) (known_arrivals h) r (renewed-all h) is in
      let number = numbered-told n r.told (found-passes (is_of n) (known_arrivals h) r is) in
      sym (ap (λ x. x.deliveries) own) ∙ ap (told_deliveries h) number

  found-slots : (n : ℕ) (r : Remembered) → find (is_of n) (known_arrivals h) ≡ Some r → r.slots ≡ map (λ x. record { destination = x.destination; state = state h n x.destination }) (deliveries h n)
  found-slots n r is =
      let own = found-holds (is_of n) (IsRenewed h) (known_arrivals h) r (renewed-all h) is in
      let number = numbered-told n r.told (found-passes (is_of n) (known_arrivals h) r is) in
      sym (ap (λ x. x.slots) own) ∙ ap (told_slots h) number

  pub found-message : (n : ℕ) → option_map accepted_of (find (is_of n) (known_arrivals h)) ≡ message_at h n
  found-message n = by (find (is_of n) (known_arrivals h)) (message_at h n) refl refl (recalled-message h sound n)
    where
      by : (o : Option Remembered) (q : Option Accepted) → find (is_of n) (known_arrivals h) ≡ o → message_at h n ≡ q → option_map what_came o ≡ option_map what_is q → option_map accepted_of o ≡ q
      by None None found there same = refl
      by None (Some m) found there same = absurd cc
      by (Some r) None found there same = absurd cc
      by (Some r) (Some m) found there same =
          let pair : what_came r ≡ what_is m = cc in
          let goes_to : r.deliveries ≡ m.deliveries = found-deliveries n r found ∙ ap (λ o. option_map_or (λ x. x.deliveries) o []) there in
          λ i. Some (record { channel = (pair i).0; raw = (pair i).1; deliveries = goes_to i })

  -- a message that isn't forgotten is as it was
  pub message-kept : (n : ℕ) → bound ≤ n → message_at (pruned bound h) n ≡ message_at h n
  message-kept n from = elim (lt-tells n (message_count h)) [
    | inl w ↦ rw w.0 (ap (option_map accepted_of) (remains-of n from) ∙ found-message n)
    | inr w ↦ rw w.0 (sym (message-beyond h n w.1))
  ]

  pub message-gone : (n : ℕ) → n < bound → message_at (pruned bound h) n ≡ None
  message-gone n below =
      let enough = few in
      let before : nat_lt n (message_count h) ≡ true = grind (arith, nat_tests) in
      ap (λ b. cond b (option_map accepted_of (remembered_as (folded bound h) n)) (slice_get [] (n - message_count h))) before ∙ ap (option_map accepted_of) (gone-of n below)

  -- so is its slot
  pub slot-kept : (n d : ℕ) → bound ≤ n → slot (pruned bound h) n d ≡ slot h n d
  slot-kept n d from =
      ap (λ o. cond (names d (option_map_or (λ m. m.deliveries) o [])) (Some (state (pruned bound h) n d)) None) (message-kept n from)
      ∙ cond-same (names d (deliveries h n)) (state (pruned bound h) n d) (state h n d)
      (λ named. ap (λ o. option_map_or (λ r. option_map_or (λ s. s) (state_at d r.slots) (Waiting 0 0)) o (Waiting 0 0)) (remains-of n from) ∙ by (find (is_of n) (known_arrivals h)) refl named)
    where
      by : (o : Option Remembered) → find (is_of n) (known_arrivals h) ≡ o → names d (deliveries h n) ≡ true
          → option_map_or (λ r. option_map_or (λ s. s) (state_at d r.slots) (Waiting 0 0)) o (Waiting 0 0) ≡ state h n d
      by (Some r) found named =
          ap (λ slots. option_map_or (λ s. s) (state_at d slots) (Waiting 0 0)) (found-slots n r found)
          ∙ ap (λ o. option_map_or (λ s. s) o (Waiting 0 0)) (state-named (state h n) d (deliveries h n) named)
      by None found named =
          let none : message_at h n ≡ None = sym (found-message n) ∙ ap (option_map accepted_of) found in
          let unnamed : names d (deliveries h n) ≡ false = ap (λ o. names d (option_map_or (λ m. m.deliveries) o [])) none in
          absurd cc

  pub slot-gone : (n d : ℕ) → n < bound → slot (pruned bound h) n d ≡ None
  slot-gone n d below = ap (λ o. cond (names d (option_map_or (λ m. m.deliveries) o [])) (Some (state (pruned bound h) n d)) None) (message-gone n below)

  -- ---- queues and counters

  pub same-count : message_count (pruned bound h) ≡ message_count h
  same-count = omega arith

  queued-same : (d n : ℕ) → is_queued (pruned bound h) d n ≡ is_queued h d n
  queued-same d n = elim (lt-tells n bound) [
    | inl w ↦ ap (λ o. option_map_or is_live o false) (slot-gone n d w.1) ∙ sym (quiet n d w.1)
    | inr w ↦ ap (λ o. option_map_or is_live o false) (slot-kept n d w.1)
  ]

  queue-same : (d : ℕ) → queue (pruned bound h) d ≡ queue h d
  queue-same d = ap (λ k. filter (is_queued (pruned bound h) d) (range_with_len 0 k)) same-count ∙ filter-range (is_queued (pruned bound h) d) (is_queued h d) 0 (message_count h) (λ n low below. queued-same d n)

  pub slots-split : (d : ℕ) (so : SlotState → Bool) → forgotten_count h bound d so + slot_count (pruned bound h) d so ≡ slot_count h d so
  slots-split d so =
      ap (λ k. forgotten_count h bound d so + count_by (λ n. option_map_or so (slot (pruned bound h) n d) false) (range_with_len 0 k)) same-count
      ∙ count-split (λ n. option_map_or so (slot h n d) false) (λ n. option_map_or so (slot (pruned bound h) n d) false) bound (message_count h) few
      (λ n below. ap (λ o. option_map_or so o false) (slot-gone n d below)) (λ n from. ap (λ o. option_map_or so o false) (slot-kept n d from))

  -- what is counted of live slots alone
  live-count : (d : ℕ) (so : SlotState → Bool) → ((s : SlotState) → is_live s ≡ false → so s ≡ false) → slot_count (pruned bound h) d so ≡ slot_count h d so
  live-count d so only =
      let none : forgotten_count h bound d so ≡ 0 = count-range (λ n. option_map_or so (slot h n d) false) (λ n. false) 0 bound (λ n low below. by (slot h n d) (quiet n d (omega arith))) ∙ count-none (range_with_len 0 bound) in
      let split = slots-split d so in omega arith
    where
      by : (o : Option SlotState) → option_map_or is_live o false ≡ false → option_map_or so o false ≡ false
      by None is = refl
      by (Some s) is = only s is

  only-waiting : (s : SlotState) → is_live s ≡ false → is_waiting s ≡ false
  only-waiting (Waiting attempts due) is = absurd cc
  only-waiting (InFlight attempt) is = refl
  only-waiting Delivered is = refl
  only-waiting (Failed cause) is = refl

  only-in_flight : (s : SlotState) → is_live s ≡ false → is_in_flight s ≡ false
  only-in_flight (Waiting attempts due) is = refl
  only-in_flight (InFlight attempt) is = absurd cc
  only-in_flight Delivered is = refl
  only-in_flight (Failed cause) is = refl

  channel-same : (c : ℕ) → c < 64 → channel_counts (pruned bound h) c ≡ channel_counts h c
  channel-same c below =
      let before : channel_at c (forgotten h bound) ≡ channel_counts h c = get_or-map-range_with_len (channel_counts h) 0 64 c c no_arrivals below (omega arith) in
      counts-zero (channel_at c (forgotten h bound)) ∙ before

  pub destination-same : (d : ℕ) → d < 32 → destination_counts (pruned bound h) d ≡ destination_counts h d
  destination-same d below =
      λ i. record { waiting = live-count d is_waiting only-waiting i; inflight = live-count d is_in_flight only-in_flight i; delivered = delivered i; failed = failed i; attempts = attempts i }
    where
      before : destination_at d (forgotten h bound) ≡ forgotten_at h bound d
      before = get_or-map-range_with_len (forgotten_at h bound) 0 32 d d no_slots below (omega arith)

      delivered : (destination_at d (forgotten h bound)).delivered + slot_count (pruned bound h) d is_delivered ≡ (destination_before h d).delivered + slot_count h d is_delivered
      delivered = let split = slots-split d is_delivered in let was = ap (λ x. x.delivered) before in omega arith

      failed : (destination_at d (forgotten h bound)).failed + slot_count (pruned bound h) d is_failed ≡ (destination_before h d).failed + slot_count h d is_failed
      failed = let split = slots-split d is_failed in let was = ap (λ x. x.failed) before in omega arith

      attempts : (destination_at d (forgotten h bound)).attempts + 0 ≡ (destination_counts h d).attempts
      attempts = let was = ap (λ x. x.attempts) before in omega arith

  -- ---- places and keys

  none-held : (place : ℕ) → entry_at (pruned bound h) place ≡ None
  none-held place = by (nat_lt place (next_place h))
    where
      by : (b : Bool) → ◌≡◌ {A = Option Entry} (cond b None (slice_get [] (place - next_place h))) None
      by true = refl
      by false = refl

  entry-past : (place : ℕ) → nat_lt place (next_place h) ≡ false → entry_at h place ≡ None
  entry-past place past =
      let beyond : next_place h ≤ place = grind (arith, nat_tests) in
      let since : nat_lt place h.opening.places ≡ false = grind (arith, nat_tests) in
      rw since (slice_get_past h.entries (place - h.opening.places) (omega arith))

  key-same : (key : List ℕ) → (forgotten_by bound h).keys key ≡ false → known (pruned bound h) key ≡ known h key
  key-same key apart = some (option_map (λ r. r.place) (find (has_key key) (filter (λ r. not (is_forgotten h bound r)) (known_arrivals h)))) ∙ (ap (option_map (λ r. r.place)) (find-remaining (has_key key) (is_forgotten h bound) (known_arrivals h) apart) ∙ sym (known-arrivals h key))
    where
      some : (o : Option ℕ) → option_map_or (λ place. Some place) o (option_map (λ k. next_place h + k) (position (keeps key) [])) ≡ o
      some None = refl
      some (Some place) = refl

  bytes-same : (key raw : List ℕ) (place : ℕ) → (forgotten_by bound h).keys key ≡ false → known h key ≡ Some place → brings_at (pruned bound h) raw place ≡ brings_at h raw place
  bytes-same key raw place apart is = by (find (has_key key) (known_arrivals h)) refl (sym (known-arrivals h key) ∙ is)
    where
      by : (o : Option Remembered) → find (has_key key) (known_arrivals h) ≡ o → option_map (λ r. r.place) o ≡ Some place → brings_at (pruned bound h) raw place ≡ brings_at h raw place
      by None found at = absurd cc
      by (Some r) found at =
          let same : r.place ≡ place = cc in
          let kept = filter (λ r. not (is_forgotten h bound r)) (known_arrivals h) in
          subst (λ p. brings_at (pruned bound h) raw p ≡ brings_at h raw p) same
          ((λ i. found-brought (has_key key) raw 0 kept r (rising-filter (λ r. not (is_forgotten h bound r)) 0 (known_arrivals h) (arrivals-rise h sound)) (find-remaining (has_key key) (is_forgotten h bound) (known_arrivals h) apart ∙ found) i
          || option_map_or (brings raw) (none-held r.place i) false)
          ∙ (or-none (bytes_eq raw r.raw) ∙ sym (brings-arrival h sound key raw r found)))

  -- a pruned history is alike, but for what was forgotten
  pub pruned-alike : IsAlike (forgotten_by bound h) h (pruned bound h)
  pruned-alike = record {
    plan = refl;
    places = omega arith;
    messages = same-count;
    deployments = omega arith;
    channels = channel-same;
    destinations = destination-same;
    queues = queue-same;
    earlier = λ n is. let enough = few in let below : n < bound = grind (arith, nat_tests) in omega arith;
    folded = λ place is. grind (arith, nat_tests);
    settled = λ n d is. quiet n d (grind (arith, nat_tests));
    entries = λ place apart. none-held place ∙ sym (entry-past place apart);
    message = λ n apart. message-kept n (grind (arith, nat_tests));
    slots = λ n d apart. slot-kept n d (grind (arith, nat_tests));
    keys = key-same;
    bytes = bytes-same;
  }
