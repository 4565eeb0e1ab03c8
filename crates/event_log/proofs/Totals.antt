-- What a sum over all slots is after some of them changed.
use Rattle.std.proofs.Common.{◌≡◌, ◌≢◌, ℕ, ◌+◌, ◌<◌, ◌≤◌, inl, inr, cond, List, [], ◌∷◌, length, Option, None, Some, refl, sym, ◌∙◌, ap, arith, suc, zero}
use Rattle.std.specs.Prelude.{sum_by}
use Rattle.std.specs.List.{cons_option, range_with_len}
use Rattle.std.specs.Option.{option_map_or}
use Rattle.std.proofs.lemmas.Bool.Decides.{eqb_tells}
use Rattle.std.proofs.lemmas.List.Sums.{sum_by-cons}
use Rattle.dest_queue.specs.declared.SlotState.{SlotState}
use Rattle.dest_queue.specs.declared.SlotState.TheVariants.{Waiting, InFlight, Delivered, Failed}
use Rattle.plan_text.specs.Entries.{PlanEntry}
use Rattle.event_log.specs.declared.entry.Entry.{Entry}
use Rattle.event_log.specs.History.{History, accepted, accepted_by, accepted_from, message_count, next_place, numbers, plan_after, plan_in_force, slot}
use Rattle.event_log.specs.Answers.{attempts_max}
use Rattle.event_log.specs.Room.{is_in_flight, message_total, owed, slot_owed, total}
use Rattle.event_log.specs.inner.Room.{in_flight}
use Rattle.event_log.proofs.Following.{funext}

-- a sum over numbers of which each is alike
pub sum-alike : (f g : ℕ → ℕ) (a k : ℕ) → ((y : ℕ) → a ≤ y → y < a + k → g y ≡ f y) → sum_by g (range_with_len a k) ≡ sum_by f (range_with_len a k)
sum-alike f g a zero alike = refl
sum-alike f g a (suc k) alike =
    let here = alike a (omega arith) (omega arith) in
    let rest = sum-alike f g (a + 1) k (λ y low high. alike y (omega arith) (omega arith)) in
    omega (arith, sum_by-cons f a (range_with_len (a + 1) k), sum_by-cons g a (range_with_len (a + 1) k))

-- a sum over numbers that are alike but at one place
pub sum-changed : (f g : ℕ → ℕ) (x : ℕ) → ((y : ℕ) → y ≢ x → g y ≡ f y) → (a k : ℕ) → a ≤ x → x < a + k → sum_by g (range_with_len a k) + f x ≡ sum_by f (range_with_len a k) + g x
sum-changed f g x others a zero low high = absurd (omega arith)
sum-changed f g x others a (suc k) low high = elim (eqb_tells x a) [
  | inl w ↦
      let same = w.1 in
      let rest = sum-alike f g (a + 1) k (λ y above below. others y (omega arith)) in
      rw same (omega (arith, sum_by-cons f a (range_with_len (a + 1) k), sum_by-cons g a (range_with_len (a + 1) k), rest))
  | inr w ↦
      let apart = w.1 in
      let here = others a (λ e. apart (sym e)) in
      let rest = sum-changed f g x others (a + 1) k (omega arith) (omega arith) in
      omega (arith, sum_by-cons f a (range_with_len (a + 1) k), sum_by-cons g a (range_with_len (a + 1) k))
]

-- a sum over one number more
pub sum-more : (f : ℕ → ℕ) (a k : ℕ) → sum_by f (range_with_len a (suc k)) ≡ sum_by f (range_with_len a k) + f (a + k)
sum-more f a zero = let here : f (a + 0) ≡ f a = ap f (omega arith) in omega arith
sum-more f a (suc k) =
    let rest = sum-more f (a + 1) k in
    let here : f (a + suc k) ≡ f (a + 1 + k) = ap f (omega arith) in
    omega (arith, sum_by-cons f a (range_with_len (a + 1) (suc k)), sum_by-cons f a (range_with_len (a + 1) k))

-- a sum of less is less
sum-le : (f g : ℕ → ℕ) → ((y : ℕ) → f y ≤ g y) → (ns : List ℕ) → sum_by f ns ≤ sum_by g ns
sum-le f g less [] = omega arith
sum-le f g less (n ∷ ns) = let here = less n in let rest = sum-le f g less ns in omega (arith, sum_by-cons f n ns, sum_by-cons g n ns)

-- the sum over the slots of one message, of which one changed
pub message-changed : (weight : ℕ → SlotState → ℕ) (before after : ℕ → Option SlotState) (d : ℕ) → d < 32 → ((e : ℕ) → e ≢ d → after e ≡ before e)
    → message_total weight after + option_map_or (weight d) (before d) 0 ≡ message_total weight before + option_map_or (weight d) (after d) 0
message-changed weight before after d inside others =
    sum-changed (λ e. option_map_or (weight e) (before e) 0) (λ e. option_map_or (weight e) (after e) 0) d
    (λ e apart. ap (λ o. option_map_or (weight e) o 0) (others e apart)) 0 32 (omega arith) (omega arith)

-- the sum over all slots, where those of one message changed
pub total-changed : (weight : ℕ → SlotState → ℕ) (h h' : History) (n : ℕ) → message_count h' ≡ message_count h → n < message_count h → ((m : ℕ) → m ≢ n → (d : ℕ) → slot h' m d ≡ slot h m d)
    → total weight h' + message_total weight (slot h n) ≡ total weight h + message_total weight (slot h' n)
unfolding total
total-changed weight h h' n same exists others =
    ap (λ k. sum_by (λ m. message_total weight (slot h' m)) (range_with_len 0 k) + message_total weight (slot h n)) same
    ∙ sum-changed (λ m. message_total weight (slot h m)) (λ m. message_total weight (slot h' m)) n
    (λ m apart. ap (message_total weight) (funext (slot h' m) (slot h m) (others m apart))) 0 (message_count h) (omega arith) (omega arith)

-- the sum over all slots, where one message came
pub total-grown : (weight : ℕ → SlotState → ℕ) (h h' : History) → message_count h' ≡ message_count h + 1 → ((m : ℕ) → m < message_count h → (d : ℕ) → slot h' m d ≡ slot h m d)
    → total weight h' ≡ total weight h + message_total weight (slot h' (message_count h))
unfolding total
total-grown weight h h' more older =
    ap (λ k. sum_by (λ m. message_total weight (slot h' m)) (range_with_len 0 k)) (grown (message_count h') (message_count h) more)
    ∙ (sum-more (λ m. message_total weight (slot h' m)) 0 (message_count h)
    ∙ (ap (λ t. t + message_total weight (slot h' (0 + message_count h)))
    (sum-alike (λ m. message_total weight (slot h m)) (λ m. message_total weight (slot h' m)) 0 (message_count h)
    (λ m low below. ap (message_total weight) (funext (slot h' m) (slot h m) (older m (omega arith)))))
    ∙ ap (λ n. sum_by (λ m. message_total weight (slot h m)) (range_with_len 0 (message_count h)) + message_total weight (slot h' n)) (from_zero (message_count h))))
  where
    grown : (a b : ℕ) → a ≡ b + 1 → a ≡ suc b
    grown a b e = omega arith

    from_zero : (a : ℕ) → 0 + a ≡ a
    from_zero a = omega arith

-- the sum over all slots, where no slot changed
pub total-same : (weight : ℕ → SlotState → ℕ) (h h' : History) → message_count h' ≡ message_count h → ((m : ℕ) → m < message_count h → (d : ℕ) → slot h' m d ≡ slot h m d) → total weight h' ≡ total weight h
unfolding total
total-same weight h h' same older =
    ap (λ k. sum_by (λ m. message_total weight (slot h' m)) (range_with_len 0 k)) same
    ∙ sum-alike (λ m. message_total weight (slot h m)) (λ m. message_total weight (slot h' m)) 0 (message_count h)
    (λ m low below. ap (message_total weight) (funext (slot h' m) (slot h m) (older m (omega arith))))

-- the sum of a lesser weight
pub total-le : (v w : ℕ → SlotState → ℕ) → ((d : ℕ) (s : SlotState) → v d s ≤ w d s) → (h : History) → total v h ≤ total w h
unfolding total
total-le v w less h = sum-le (λ n. message_total v (slot h n)) (λ n. message_total w (slot h n)) (λ n. sum-le (λ d. option_map_or (v d) (slot h n d) 0) (λ d. option_map_or (w d) (slot h n d) 0)
    (λ d. one d (slot h n d)) (range_with_len 0 32)) (numbers h)
  where
    one : (d : ℕ) (o : Option SlotState) → option_map_or (v d) o 0 ≤ option_map_or (w d) o 0
    one d None = omega arith
    one d (Some s) = less d s

-- each attempt under way owes at least its settlement
pub in_flight-owed : (h : History) → in_flight h ≤ owed h
in_flight-owed h = total-le (λ d s. cond (is_in_flight s) 1 0) (λ d. slot_owed (attempts_max (plan_in_force h) d)) (λ d s. one (attempts_max (plan_in_force h) d) s) h
  where
    one : (max : ℕ) (s : SlotState) → cond (is_in_flight s) 1 0 ≤ slot_owed max s
    one max (Waiting attempts due) = omega arith
    one max (InFlight attempt) = omega arith
    one max Delivered = omega arith
    one max (Failed cause) = omega arith

-- at most one message for each entry
few : (plan : PlanEntry) (es : List Entry) → length (accepted_from plan es) ≤ length es
few plan [] = omega arith
few plan (e ∷ es) =
    let rest = few (plan_after plan e) es in
    elim (accepted_by plan e) as (λ o. length (cons_option o (accepted_from (plan_after plan e) es)) ≤ suc (length es)) [ None ↦ omega (arith, rest) | Some m ↦ omega (arith, rest) ]

-- no more messages since the opening than entries
pub accepted-entries : (h : History) → length (accepted h) ≤ length h.entries
accepted-entries h = few h.opening.plan h.entries

-- no more messages than places
pub messages-places : (h : History) → h.opening.messages ≤ h.opening.places → message_count h ≤ next_place h
messages-places h fewer = omega (arith, accepted-entries h)
