-- What one more entry changes: places, messages, slots, queues and counters.
use Rattle.std.proofs.Common.{◌≡◌, ◌≢◌, ℕ, ◌+◌, ◌-◌, ◌<◌, ◌≤◌, ◌⊎◌, inl, inr, Bool, true, false, cond, not, ◌==◌, nat_lt, List, [], ◌∷◌, ◌++◌, length, Option, None, Some, refl, sym, ◌∙◌, ap, subst, arith, suc, zero, length-append}
use Rattle.std.specs.Prelude.{count_by, filter, slice_get, option_to_list}
use Rattle.std.specs.List.{range_with_len}
use Rattle.std.specs.Option.{option_map, option_map_or}
use Rattle.std.proofs.lemmas.Bool.Decides.{eqb_tells, nat_tests}
use Rattle.std.proofs.lemmas.List.{append-nil}
use Rattle.std.proofs.lemmas.List.Sums.{sum_by-append, sum_by-cons}
use Rattle.dest_queue.specs.declared.SlotState.{SlotState}
use Rattle.dest_queue.specs.declared.SlotState.TheVariants.{Waiting}
use Rattle.dest_queue.specs.States.{is_live}
use Rattle.stat_count.specs.declared.ChannelCounts.{ChannelCounts}
use Rattle.event_log.specs.declared.entry.Told.{Told}
use Rattle.event_log.specs.declared.entry.Entry.{Entry}
use Rattle.event_log.specs.History.{Accepted, History, accepted, accepted_by, deliveries, deployed, deployed_by, entry_at, followed_by, is_queued, message_at, message_count, accepted_of, names, next_place, numbers, plan_in_force, queue, remembered_as, slot, state, state_by}
use Rattle.event_log.specs.Counting.{channel_before, channel_counts, is_accepted, is_filtered, is_refused, is_repeat, is_told, slot_count, told_count}
use Rattle.event_log.specs.Deployment.{deployments}
use Rattle.event_log.proofs.Following.{accepted-followed_by, deployed-followed_by, state-followed_by}
use Rattle.event_log.proofs.Reading.{message-beyond}

-- ---- lists

-- one number is below another, or it is not
below-or-not : (a b : ℕ) → (a < b) ⊎ (b ≤ a)
below-or-not zero zero = inr (omega arith)
below-or-not zero (suc b) = inl (omega arith)
below-or-not (suc a) zero = inr (omega arith)
below-or-not (suc a) (suc b) = elim (below-or-not a b) [ inl w ↦ inl (omega arith) | inr w ↦ inr (omega arith) ]

pub lt-tells : (a b : ℕ) → ((nat_lt a b ≡ true) × (a < b)) ⊎ ((nat_lt a b ≡ false) × (b ≤ a))
lt-tells a b = elim (below-or-not a b) [ inl w ↦ inl (grind (arith, nat_tests), w) | inr w ↦ inr (grind (arith, nat_tests), w) ]

eqb-suc : (a b : ℕ) → (suc a == suc b) ≡ (a == b)
eqb-suc a b = elim (eqb_tells a b) [
  | inl w ↦ let same = w.1 in let yes : (suc a == suc b) ≡ true = grind (arith, nat_tests) in yes ∙ sym w.0
  | inr w ↦ let differs = w.1 in let no : (suc a == suc b) ≡ false = grind (arith, nat_tests) in no ∙ sym w.0
]

-- an item of a list, or the one more
get-option : {A : Type 0} (xs : List A) (o : Option A) (k : ℕ) → slice_get (xs ++ option_to_list o) k ≡ cond (k == length xs) o (slice_get xs k)
get-option [] None zero = refl
get-option [] None (suc k) = let no : (suc k == 0) ≡ false = grind (arith, nat_tests) in rw no refl
get-option [] (Some x) zero = refl
get-option [] (Some x) (suc k) = let no : (suc k == 0) ≡ false = grind (arith, nat_tests) in rw no refl
get-option (y ∷ xs) o zero = let no : (0 == suc (length xs)) ≡ false = grind (arith, nat_tests) in rw no refl
get-option (y ∷ xs) o (suc k) = get-option xs o k ∙ ap (λ b. cond b o (slice_get xs k)) (sym (eqb-suc k (length xs)))

-- the same of a list whose items are numbered from a on
get-since : {A : Type 0} (r : Option A) (xs : List A) (o : Option A) (a n : ℕ)
    → cond (nat_lt n a) r (slice_get (xs ++ option_to_list o) (n - a)) ≡ cond (n == a + length xs) o (cond (nat_lt n a) r (slice_get xs (n - a)))
get-since r xs o a n = elim (eqb_tells n (a + length xs)) [
  | inl w ↦
      let same = w.1 in
      let since : nat_lt n a ≡ false = grind (arith, nat_tests) in
      let last : (n - a == length xs) ≡ true = grind (arith, nat_tests) in
      rw (w.0, since) (get-option xs o (n - a) ∙ ap (λ b. cond b o (slice_get xs (n - a))) last)
  | inr w ↦ rw w.0 (elim (lt-tells n a) [
    | inl v ↦ rw v.0 refl
    | inr v ↦
        let differs = w.1 in
        let past = v.1 in
        let other : n - a ≢ length xs = λ e. differs (omega arith) in
        let apart : (n - a == length xs) ≡ false = grind (arith, nat_tests) in
        rw v.0 (get-option xs o (n - a) ∙ ap (λ b. cond b o (slice_get xs (n - a))) apart)
  ])
]

-- a count over one item more
pub count-push : {X : Type 0} (p : X → Bool) (xs : List X) (x : X) → count_by p (xs ++ x ∷ []) ≡ count_by p xs + cond (p x) 1 0
count-push p xs x = omega (arith, sum_by-append (λ y. cond (p y) 1 0) xs (x ∷ []))

-- a range of one number more
pub range-push : (a k : ℕ) → range_with_len a (suc k) ≡ range_with_len a k ++ (a + k) ∷ []
range-push a zero = let here : a + 0 ≡ a = omega arith in rw here refl
range-push a (suc k) = let next : a + 1 + k ≡ a + suc k = omega arith in ap (λ xs. a ∷ xs) (range-push (a + 1) k ∙ ap (λ n. range_with_len (a + 1) k ++ n ∷ []) next)

-- filters that agree within a range
pub filter-range : (p q : ℕ → Bool) (a k : ℕ) → ((n : ℕ) → a ≤ n → n < a + k → p n ≡ q n) → filter p (range_with_len a k) ≡ filter q (range_with_len a k)
filter-range p q a zero agree = refl
filter-range p q a (suc k) agree =
    let here = agree a (omega arith) (omega arith) in
    let rest = filter-range p q (a + 1) k (λ n low high. agree n (omega arith) (omega arith)) in
    λ i. cond (here i) (a ∷ rest i) (rest i)

filter-append : {X : Type 0} (p : X → Bool) (xs ys : List X) → filter p (xs ++ ys) ≡ filter p xs ++ filter p ys
filter-append p [] ys = refl
filter-append p (x ∷ xs) ys = by (p x) (filter-append p xs ys)
  where
    by : (b : Bool) → filter p (xs ++ ys) ≡ filter p xs ++ filter p ys → cond b (x ∷ filter p (xs ++ ys)) (filter p (xs ++ ys)) ≡ cond b (x ∷ filter p xs) (filter p xs) ++ filter p ys
    by true rest = ap (λ zs. x ∷ zs) rest
    by false rest = rest

-- a test that lets through less lets the same through of what another has let through
pub filter-through : {X : Type 0} (p q : X → Bool) → ((x : X) → q x ≡ true → p x ≡ true) → (xs : List X) → filter q (filter p xs) ≡ filter q xs
filter-through p q less [] = refl
filter-through p q less (x ∷ xs) = by (p x) (q x) refl (less x) (filter-through p q less xs)
  where
    by : (b c : Bool) → q x ≡ c → (c ≡ true → b ≡ true) → filter q (filter p xs) ≡ filter q xs → filter q (cond b (x ∷ filter p xs) (filter p xs)) ≡ cond (q x) (x ∷ filter q xs) (filter q xs)
    by true c is less rest = ap (λ zs. cond (q x) (x ∷ zs) zs) rest
    by false true is less rest = let no = less refl in absurd cc
    by false false is less rest = rest ∙ sym (ap (λ b. cond b (x ∷ filter q xs) (filter q xs)) is)

-- tests that agree where a third one passes let the same through of what that has let through
pub filter-agree : {X : Type 0} (p q r : X → Bool) → ((x : X) → p x ≡ true → q x ≡ r x) → (xs : List X) → filter q (filter p xs) ≡ filter r (filter p xs)
filter-agree p q r agree [] = refl
filter-agree p q r agree (x ∷ xs) = by (p x) (agree x) (filter-agree p q r agree xs)
  where
    by : (b : Bool) → (b ≡ true → q x ≡ r x) → filter q (filter p xs) ≡ filter r (filter p xs) → filter q (cond b (x ∷ filter p xs) (filter p xs)) ≡ filter r (cond b (x ∷ filter p xs) (filter p xs))
    by true agree rest = let here = agree refl in λ i. cond (here i) (x ∷ rest i) (rest i)
    by false agree rest = rest

-- counts by tests that agree within a range
pub count-range : (p q : ℕ → Bool) (a k : ℕ) → ((n : ℕ) → a ≤ n → n < a + k → p n ≡ q n) → count_by p (range_with_len a k) ≡ count_by q (range_with_len a k)
count-range p q a zero agree = refl
count-range p q a (suc k) agree =
    let here : ◌≡◌ {A = ℕ} (cond (p a) 1 0) (cond (q a) 1 0) = ap (λ b. cond b 1 0) (agree a (omega arith) (omega arith)) in
    let rest = count-range p q (a + 1) k (λ n low high. agree n (omega arith) (omega arith)) in
    sum_by-cons (λ n. cond (p n) 1 0) a (range_with_len (a + 1) k) ∙ ((λ i. here i + rest i) ∙ sym (sum_by-cons (λ n. cond (q n) 1 0) a (range_with_len (a + 1) k)))

-- counts by tests that agree but at one number
pub count-changed : (p q : ℕ → Bool) (m : ℕ) → ((n : ℕ) → n ≢ m → q n ≡ p n) → (a k : ℕ) → a ≤ m → m < a + k
    → count_by q (range_with_len a k) + cond (p m) 1 0 ≡ count_by p (range_with_len a k) + cond (q m) 1 0
count-changed p q m others a zero low high = absurd (omega arith)
count-changed p q m others a (suc k) low high = elim (eqb_tells m a) [
  | inl w ↦
      let same = w.1 in
      let rest = count-range q p (a + 1) k (λ n above below. others n (λ e. absurd (omega arith))) in
      rw same (omega (arith, sum_by-cons (λ n. cond (p n) 1 0) a (range_with_len (a + 1) k), sum_by-cons (λ n. cond (q n) 1 0) a (range_with_len (a + 1) k), rest))
  | inr w ↦
      let apart = w.1 in
      let here : ◌≡◌ {A = ℕ} (cond (q a) 1 0) (cond (p a) 1 0) = ap (λ b. cond b 1 0) (others a (λ e. apart (sym e))) in
      let rest = count-changed p q m others (a + 1) k (omega arith) (omega arith) in
      omega (arith, here, rest, sum_by-cons (λ n. cond (p n) 1 0) a (range_with_len (a + 1) k), sum_by-cons (λ n. cond (q n) 1 0) a (range_with_len (a + 1) k))
]

-- ---- places, plans and counters

pub place-followed_by : (h : History) (e : Entry) → next_place (followed_by h e) ≡ next_place h + 1
place-followed_by h e = omega (arith, length-append h.entries (e ∷ []))

-- the entry at a place is the new one, or as it was
pub entry-followed_by : (h : History) (e : Entry) (place : ℕ) → entry_at (followed_by h e) place ≡ cond (place == next_place h) (Some e) (entry_at h place)
entry-followed_by h e place = get-since None h.entries (Some e) h.opening.places place

-- as many plans were deployed, or one more
pub deployments-followed_by : (h : History) (e : Entry) → deployments (followed_by h e) ≡ deployments h + length (option_to_list (deployed_by e))
deployments-followed_by h e =
    ap (λ ps. h.opening.deployments + length ps) (deployed-followed_by h e) ∙ omega (arith, length-append (deployed h) (option_to_list (deployed_by e)))

-- the counters of a channel, with one entry more
pub with_told : ℕ → Entry → ChannelCounts → ChannelCounts
with_told c e counts = record {
  received = counts.received + cond (is_told c (λ told. not (is_repeat told)) e) 1 0;
  filtered = counts.filtered + cond (is_told c is_filtered e) 1 0;
  accepted = counts.accepted + cond (is_told c is_accepted e) 1 0;
  refused = counts.refused + cond (is_told c is_refused e) 1 0;
  repeats = counts.repeats + cond (is_told c is_repeat e) 1 0;
}

pub channel-followed_by : (h : History) (e : Entry) (c : ℕ) → channel_counts (followed_by h e) c ≡ with_told c e (channel_counts h c)
unfolding with_told
channel-followed_by h e c =
    λ i. record {
      received = one (λ told. not (is_repeat told)) (channel_before h c).received i;
      filtered = one is_filtered (channel_before h c).filtered i;
      accepted = one is_accepted (channel_before h c).accepted i;
      refused = one is_refused (channel_before h c).refused i;
      repeats = one is_repeat (channel_before h c).repeats i;
    }
  where
    one : (so : Told → Bool) (a : ℕ) → a + told_count (followed_by h e) c so ≡ a + told_count h c so + cond (is_told c so e) 1 0
    one so a = omega (arith, count-push (is_told c so) h.entries e)

-- ---- messages and slots

-- as many messages, or one more
pub count-followed_by : (h : History) (e : Entry) → message_count (followed_by h e) ≡ message_count h + length (option_to_list (accepted_by (plan_in_force h) e))
count-followed_by h e =
    ap (λ ms. h.opening.messages + length ms) (accepted-followed_by h e) ∙ omega (arith, length-append (accepted h) (option_to_list (accepted_by (plan_in_force h) e)))

-- message n is that which the entry brings, or as it was
pub message-followed_by : (h : History) (e : Entry) (n : ℕ) → message_at (followed_by h e) n ≡ cond (n == message_count h) (accepted_by (plan_in_force h) e) (message_at h n)
message-followed_by h e n =
    ap (λ ms. cond (nat_lt n h.opening.messages) (option_map accepted_of (remembered_as h.opening n)) (slice_get ms (n - h.opening.messages))) (accepted-followed_by h e)
    ∙ get-since (option_map accepted_of (remembered_as h.opening n)) (accepted h) (accepted_by (plan_in_force h) e) h.opening.messages n

-- an entry that brings no message leaves as many
pub count-unmoved : (h : History) (e : Entry) → accepted_by (plan_in_force h) e ≡ None → message_count (followed_by h e) ≡ message_count h
count-unmoved h e none = count-followed_by h e ∙ (ap (λ o. message_count h + length (option_to_list o)) none ∙ omega arith)

-- and each as it was
pub message-unmoved : (h : History) (e : Entry) → accepted_by (plan_in_force h) e ≡ None → (n : ℕ) → message_at (followed_by h e) n ≡ message_at h n
message-unmoved h e none n =
    message-followed_by h e n ∙ (ap (λ o. cond (n == message_count h) o (message_at h n)) none ∙ elim (eqb_tells n (message_count h)) [
      | inl w ↦ let same = w.1 in rw w.0 (sym (message-beyond h n (omega arith)))
      | inr w ↦ rw w.0 refl
    ])

-- the slot of a message that has just come: it waits for its first attempt
pub fresh : ℕ → Option Accepted → Option SlotState
fresh d o = option_map_or (λ m. cond (names d m.deliveries) (Some (Waiting 0 0)) None) o None

-- where an entry brings no message, a slot is as the entry leaves it, or as it was
pub slot-moved : (h : History) (e : Entry) → accepted_by (plan_in_force h) e ≡ None → (n d : ℕ)
    → slot (followed_by h e) n d ≡ option_map (λ s. option_map_or (λ x. x) (state_by n d e) s) (slot h n d)
slot-moved h e none n d =
    (λ i. cond (names d (option_map_or (λ m. m.deliveries) (message-unmoved h e none n i) [])) (Some (state-followed_by h e n d i)) None)
    ∙ by (names d (deliveries h n)) (state h n d)
  where
    by : (b : Bool) (s : SlotState) → cond b (Some (option_map_or (λ x. x) (state_by n d e) s)) None ≡ option_map (λ s. option_map_or (λ x. x) (state_by n d e) s) (cond b (Some s) None)
    by true s = refl
    by false s = refl

-- where it touches no slot, one is that of the message that it brings, or as it was
pub slot-added : (h : History) (e : Entry) → ((n d : ℕ) → state_by n d e ≡ None) → ((n d : ℕ) → message_count h ≤ n → state h n d ≡ Waiting 0 0) → (n d : ℕ)
    → slot (followed_by h e) n d ≡ cond (n == message_count h) (fresh d (accepted_by (plan_in_force h) e)) (slot h n d)
unfolding fresh
slot-added h e still to_come n d =
    (λ i. cond (names d (option_map_or (λ m. m.deliveries) (message-followed_by h e n i) [])) (Some (same i)) None)
    ∙ elim (eqb_tells n (message_count h)) [
      | inl w ↦ let equal = w.1 in rw w.0 (by (accepted_by (plan_in_force h) e) (to_come n d (omega arith)))
      | inr w ↦ rw w.0 refl
    ]
  where
    same : state (followed_by h e) n d ≡ state h n d
    same = state-followed_by h e n d ∙ ap (λ o. option_map_or (λ x. x) o (state h n d)) (still n d)

    by : (o : Option Accepted) → state h n d ≡ Waiting 0 0
        → cond (names d (option_map_or (λ m. m.deliveries) o [])) (Some (state h n d)) None ≡ option_map_or (λ m. cond (names d m.deliveries) (Some (Waiting 0 0)) None) o None
    by None is = refl
    by (Some m) is = ap (λ s. cond (names d m.deliveries) (Some s) None) is

-- ---- queues and the counters of a destination, where an entry touches no slot

-- the number of a message that has just come, if it goes to d
pub queued_now : ℕ → ℕ → Option Accepted → List ℕ
queued_now d n o = option_map_or (λ m. cond (names d m.deliveries) (n ∷ []) []) o []

module _ (h : History) (e : Entry) (still : (n d : ℕ) → state_by n d e ≡ None) (to_come : (n d : ℕ) → message_count h ≤ n → state h n d ≡ Waiting 0 0) where
  -- the slots of messages before
  slot-earlier : (n d : ℕ) → n < message_count h → slot (followed_by h e) n d ≡ slot h n d
  slot-earlier n d below =
      let other : (n == message_count h) ≡ false = grind (arith, nat_tests) in
      slot-added h e still to_come n d ∙ ap (λ b. cond b (fresh d (accepted_by (plan_in_force h) e)) (slot h n d)) other

  -- the slot of the next message
  slot-next : (d : ℕ) → slot (followed_by h e) (message_count h) d ≡ fresh d (accepted_by (plan_in_force h) e)
  slot-next d =
      let same : (message_count h == message_count h) ≡ true = grind (arith, nat_tests) in
      slot-added h e still to_come (message_count h) d ∙ ap (λ b. cond b (fresh d (accepted_by (plan_in_force h) e)) (slot h (message_count h) d)) same

  -- it stands at the end of its queues
  pub queue-added : (d : ℕ) → queue (followed_by h e) d ≡ queue h d ++ queued_now d (message_count h) (accepted_by (plan_in_force h) e)
  unfolding queued_now fresh
  queue-added d = ap (λ k. filter (is_queued (followed_by h e) d) (range_with_len 0 k)) (count-followed_by h e) ∙ by (accepted_by (plan_in_force h) e) (slot-next d)
    where
      earlier : filter (is_queued (followed_by h e) d) (numbers h) ≡ queue h d
      earlier = filter-range (is_queued (followed_by h e) d) (is_queued h d) 0 (message_count h) (λ n low below. ap (λ o. option_map_or is_live o false) (slot-earlier n d (omega arith)))

      by : (o : Option Accepted) → slot (followed_by h e) (message_count h) d ≡ option_map_or (λ m. cond (names d m.deliveries) (Some (Waiting 0 0)) None) o None
          → filter (is_queued (followed_by h e) d) (range_with_len 0 (message_count h + length (option_to_list o))) ≡ queue h d ++ option_map_or (λ m. cond (names d m.deliveries) (message_count h ∷ []) []) o []
      by None is =
          let none : message_count h + 0 ≡ message_count h = omega arith in
          ap (λ k. filter (is_queued (followed_by h e) d) (range_with_len 0 k)) none ∙ (earlier ∙ sym (append-nil (queue h d)))
      by (Some m) is =
          let one : message_count h + 1 ≡ suc (message_count h) = omega arith in
          let own : 0 + message_count h ≡ message_count h = omega arith in
          ap (λ k. filter (is_queued (followed_by h e) d) (range_with_len 0 k)) one
          ∙ (ap (filter (is_queued (followed_by h e) d)) (range-push 0 (message_count h) ∙ ap (λ n. range_with_len 0 (message_count h) ++ n ∷ []) own)
          ∙ (filter-append (is_queued (followed_by h e) d) (numbers h) (message_count h ∷ [])
          ∙ (λ i. earlier i ++ cond (option_map_or is_live (is i) false) (message_count h ∷ []) []) ∙ last (names d m.deliveries)))
        where
          last : (b : Bool) → queue h d ++ cond (option_map_or is_live (cond b (Some (Waiting 0 0)) None) false) (message_count h ∷ []) [] ≡ queue h d ++ cond b (message_count h ∷ []) []
          last true = refl
          last false = refl

  -- it is counted at each destination
  pub slots-added : (d : ℕ) (so : SlotState → Bool) → slot_count (followed_by h e) d so ≡ slot_count h d so + cond (option_map_or so (fresh d (accepted_by (plan_in_force h) e)) false) 1 0
  unfolding fresh
  slots-added d so = ap (λ k. count_by (counts (followed_by h e)) (range_with_len 0 k)) (count-followed_by h e) ∙ by (accepted_by (plan_in_force h) e) (slot-next d)
    where
      counts : History → ℕ → Bool
      counts g n = option_map_or so (slot g n d) false

      earlier : count_by (counts (followed_by h e)) (numbers h) ≡ slot_count h d so
      earlier = count-range (counts (followed_by h e)) (counts h) 0 (message_count h) (λ n low below. ap (λ o. option_map_or so o false) (slot-earlier n d (omega arith)))

      by : (o : Option Accepted) → slot (followed_by h e) (message_count h) d ≡ option_map_or (λ m. cond (names d m.deliveries) (Some (Waiting 0 0)) None) o None
          → count_by (counts (followed_by h e)) (range_with_len 0 (message_count h + length (option_to_list o)))
          ≡ slot_count h d so + cond (option_map_or so (option_map_or (λ m. cond (names d m.deliveries) (Some (Waiting 0 0)) None) o None) false) 1 0
      by None is =
          let none : message_count h + 0 ≡ message_count h = omega arith in
          ap (λ k. count_by (counts (followed_by h e)) (range_with_len 0 k)) none ∙ omega (arith, earlier)
      by (Some m) is =
          let one : message_count h + 1 ≡ suc (message_count h) = omega arith in
          let own : 0 + message_count h ≡ message_count h = omega arith in
          ap (λ k. count_by (counts (followed_by h e)) (range_with_len 0 k)) one
          ∙ (ap (count_by (counts (followed_by h e))) (range-push 0 (message_count h) ∙ ap (λ n. range_with_len 0 (message_count h) ++ n ∷ []) own)
          ∙ (count-push (counts (followed_by h e)) (numbers h) (message_count h) ∙ (λ i. earlier i + cond (option_map_or so (is i) false) 1 0)))

-- ---- the same, where it leaves slots of one message in another state

module _ (h : History) (e : Entry) (none : accepted_by (plan_in_force h) e ≡ None) (m : ℕ) (others : (n d : ℕ) → n ≢ m → state_by n d e ≡ None) where
  -- the slots of other messages are as they were
  pub slot-other : (n d : ℕ) → n ≢ m → slot (followed_by h e) n d ≡ slot h n d
  slot-other n d apart = slot-moved h e none n d ∙ (ap (λ o. option_map (λ s. option_map_or (λ x. x) o s) (slot h n d)) (others n d apart) ∙ same (slot h n d))
    where
      same : (o : Option SlotState) → option_map (λ s. s) o ≡ o
      same None = refl
      same (Some s) = refl

  -- what stands in a queue afterwards stood in it before
  pub queue-moved : (d : ℕ) → ((s : SlotState) → state_by m d e ≡ Some s → is_live s ≡ true → is_queued h d m ≡ true) → queue (followed_by h e) d ≡ filter (is_queued (followed_by h e) d) (queue h d)
  queue-moved d lived =
      ap (λ k. filter (is_queued (followed_by h e) d) (range_with_len 0 k)) (count-unmoved h e none) ∙ sym (filter-through (is_queued h d) (is_queued (followed_by h e) d) less (numbers h))
    where
      by : (o : Option SlotState) (p : Option SlotState) → slot h m d ≡ o → ((s : SlotState) → p ≡ Some s → is_live s ≡ true → is_queued h d m ≡ true)
          → option_map_or is_live (option_map (λ s. option_map_or (λ x. x) p s) o) false ≡ true → is_queued h d m ≡ true
      by None p is lived live = absurd cc
      by (Some s) None is lived live = ap (λ o. option_map_or is_live o false) is ∙ live
      by (Some s) (Some x) is lived live = lived x refl live

      less : (n : ℕ) → is_queued (followed_by h e) d n ≡ true → is_queued h d n ≡ true
      less n queued = elim (eqb_tells n m) [
        | inl w ↦
            subst (λ x. is_queued h d x ≡ true) (sym w.1)
            (by (slot h m d) (state_by m d e) refl lived (sym (ap (λ o. option_map_or is_live o false) (slot-moved h e none m d)) ∙ subst (λ x. is_queued (followed_by h e) d x ≡ true) w.1 queued))
        | inr w ↦ sym (ap (λ o. option_map_or is_live o false) (slot-other n d w.1)) ∙ queued
      ]

  -- a counter changes by the slot that does
  pub slots-moved : m < message_count h → (d : ℕ) (so : SlotState → Bool)
      → slot_count (followed_by h e) d so + cond (option_map_or so (slot h m d) false) 1 0 ≡ slot_count h d so + cond (option_map_or so (slot (followed_by h e) m d) false) 1 0
  slots-moved exists d so =
      let counts : History → ℕ → Bool = λ g n. option_map_or so (slot g n d) false in
      ap (λ k. count_by (counts (followed_by h e)) (range_with_len 0 k) + cond (option_map_or so (slot h m d) false) 1 0) (count-unmoved h e none)
      ∙ count-changed (counts h) (counts (followed_by h e)) m (λ n apart. ap (λ o. option_map_or so o false) (slot-other n d apart)) 0 (message_count h) (omega arith) (omega arith)
