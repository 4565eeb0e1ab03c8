-- Histories that are alike stay alike with the same entry.
use Rattle.std.proofs.Common.{◌≡◌, ◌≢◌, ℕ, ◌+◌, ◌<◌, ◌≤◌, Bool, true, false, cond, ◌==◌, ◌||◌, List, [], ◌∷◌, ◌++◌, length, Option, None, Some, refl, sym, ◌∙◌, ap, subst, arith}
use Rattle.std.specs.Prelude.{count_by, filter, option_to_list}
use Rattle.std.specs.List.{AllByRecursion, list_any}
use Rattle.std.specs.Option.{option_map, option_map_or}
use Rattle.std.proofs.lemmas.Bool.Decides.{nat_tests}
use Rattle.plan_text.specs.Entries.{PlanEntry}
use Rattle.dest_queue.specs.declared.SlotState.{SlotState}
use Rattle.dest_queue.specs.declared.SlotState.TheVariants.{Waiting}
use Rattle.dest_queue.specs.States.{is_live, is_waiting}
use Rattle.event_log.specs.declared.entry.Entry.{Entry}
use Rattle.event_log.specs.History.{History, Remembered, accepted_by, deployed_by, entry_at, followed_by, is_queued, message_count, next_place, numbers, plan_after, plan_in_force, queue, slot, state, state_by}
use Rattle.event_log.specs.Alike.{Aside, IsAlike}
use Rattle.event_log.specs.Answers.{brings, brings_at, brought_before, keeps, known}
use Rattle.event_log.specs.Counting.{destination_before, destination_counts, is_delivered, is_failed, is_take_at, slot_count}
use Rattle.event_log.specs.Room.{is_in_flight}
use Rattle.event_log.proofs.Following.{known-followed_by, plan-followed_by, state-followed_by}
use Rattle.event_log.proofs.AnsweringAlike.{queued-outside}
use Rattle.event_log.proofs.OneMore.{channel-followed_by, count-followed_by, count-push, count-unmoved, deployments-followed_by, entry-followed_by, filter-agree, fresh, message-followed_by, place-followed_by, queue-added, queue-moved, queued_now, slot-added, slot-moved, slot-other, slots-added, slots-moved, with_told}

-- what holds of a history from its opening on: what is remembered stands before it, keys are known at places before the next,
-- and messages to come wait for their first attempt
pub record Orderly (h : History) : Type 0 where
  pub places : AllByRecursion (λ r. r.place < h.opening.places) h.opening.remembered
  pub inside : (key : List ℕ) (place : ℕ) → known h key ≡ Some place → place < next_place h
  pub to_come : (n d : ℕ) → message_count h ≤ n → state h n d ≡ Waiting 0 0

-- nothing remembered stands at a place past the opening
pub brought-past : (place opened : ℕ) (raw : List ℕ) (rs : List Remembered) → opened ≤ place → AllByRecursion (λ r. r.place < opened) rs → list_any (brought_before place raw) rs ≡ false
brought-past place opened raw [] past within = refl
brought-past place opened raw (r ∷ rs) past within =
    let first = within.0 in
    let apart : (r.place == place) ≡ false = grind (arith, nat_tests) in
    rw apart (brought-past place opened raw rs past within.1)

-- the bytes at a place of a longer history
bytes-before : (h : History) (e : Entry) (raw : List ℕ) (place : ℕ) → place < next_place h → brings_at (followed_by h e) raw place ≡ brings_at h raw place
bytes-before h e raw place inside =
    let apart : (place == next_place h) ≡ false = grind (arith, nat_tests) in
    ap (λ o. list_any (brought_before place raw) h.opening.remembered || option_map_or (brings raw) o false) (entry-followed_by h e place ∙ ap (λ b. cond b (Some e) (entry_at h place)) apart)

bytes-now : (h : History) (e : Entry) → Orderly h → (raw : List ℕ) → brings_at (followed_by h e) raw (next_place h) ≡ brings raw e
bytes-now h e orderly raw =
    let same : (next_place h == next_place h) ≡ true = grind (arith, nat_tests) in
    (λ i. brought-past (next_place h) h.opening.places raw h.opening.remembered (omega arith) orderly.places i || option_map_or (brings raw) (entry-followed_by h e (next_place h) i) false)
    ∙ ap (λ b. option_map_or (brings raw) (cond b (Some e) (entry_at h (next_place h))) false) same

-- a key that is known with one entry more was known, or is known by the entry
known-inside : (h : History) (e : Entry) → Orderly h → (key : List ℕ) (place : ℕ) → known (followed_by h e) key ≡ Some place → place < next_place h + 1
known-inside h e orderly key place is = by (known h key) (keeps key e) refl (sym (known-followed_by h e key) ∙ is)
  where
    by : (o : Option ℕ) (b : Bool) → known h key ≡ o → option_map_or (λ p. Some p) o (cond b (Some (next_place h)) None) ≡ Some place → place < next_place h + 1
    by (Some p) b was is = let same : p ≡ place = cc in let inside = orderly.inside key p was in omega arith
    by None true was is = let same : next_place h ≡ place = cc in omega arith
    by None false was is = absurd cc

-- an entry leaves slots of message m alone in another state: of one that isn't left aside, and that stood in a queue where it stands in it afterwards
pub record Moves (aside : Aside) (h : History) (e : Entry) (m : ℕ) : Type 0 where
  pub brings : (plan : PlanEntry) → accepted_by plan e ≡ None
  pub others : (n d : ℕ) → n ≢ m → state_by n d e ≡ None
  pub exists : m < message_count h
  pub apart : aside.messages m ≡ false
  pub lived : (d : ℕ) (s : SlotState) → state_by m d e ≡ Some s → is_live s ≡ true → is_queued h d m ≡ true

-- what an entry does to slots, in a history and one alike
record Changes (aside : Aside) (h k : History) (e : Entry) : Type 0 where
  queues : (d : ℕ) → queue (followed_by k e) d ≡ queue (followed_by h e) d
  counts : (d before its_before : ℕ) (so : SlotState → Bool) → its_before + slot_count k d so ≡ before + slot_count h d so
      → its_before + slot_count (followed_by k e) d so ≡ before + slot_count (followed_by h e) d so
  settled : (n d : ℕ) → aside.messages n ≡ true → is_queued (followed_by h e) d n ≡ false
  slots : (n d : ℕ) → aside.messages n ≡ false → slot (followed_by k e) n d ≡ slot (followed_by h e) n d
  to_come : (n d : ℕ) → message_count (followed_by h e) ≤ n → state (followed_by h e) n d ≡ Waiting 0 0
  its_to_come : (n d : ℕ) → message_count (followed_by k e) ≤ n → state (followed_by k e) n d ≡ Waiting 0 0

-- sums that change by the same parts
moved-sums : (a b s t s' t' was was' is is' : ℕ) → a + s ≡ b + t → s' + was ≡ s + is → t' + was' ≡ t + is' → was ≡ was' → is ≡ is' → a + s' ≡ b + t'
moved-sums a b s t s' t' was was' is is' start one two before after = omega arith

added-sums : (a b s t s' t' is is' : ℕ) → a + s ≡ b + t → s' ≡ s + is → t' ≡ t + is' → is ≡ is' → a + s' ≡ b + t'
added-sums a b s t s' t' is is' start one two same = omega arith

weight : Bool → ℕ
weight b = cond b 1 0

module _ (aside : Aside) (h k : History) (alike : IsAlike aside h k) (orderly : Orderly h) (its : Orderly k) (e : Entry) where
  -- both bring the same message
  same-message : accepted_by (plan_in_force k) e ≡ accepted_by (plan_in_force h) e
  same-message = ap (λ p. accepted_by p e) alike.plan

  -- ---- an entry that leaves slots of one message in another state
  module _ (m : ℕ) (moves : Moves aside h e m) where
    none : accepted_by (plan_in_force h) e ≡ None
    none = moves.brings (plan_in_force h)

    its-none : accepted_by (plan_in_force k) e ≡ None
    its-none = moves.brings (plan_in_force k)

    -- a slot of a message that isn't aside
    slot-alike : (n d : ℕ) → aside.messages n ≡ false → slot (followed_by k e) n d ≡ slot (followed_by h e) n d
    slot-alike n d apart =
        slot-moved k e its-none n d ∙ (ap (option_map (λ s. option_map_or (λ x. x) (state_by n d e) s)) (alike.slots n d apart) ∙ sym (slot-moved h e none n d))

    its-lived : (d : ℕ) (s : SlotState) → state_by m d e ≡ Some s → is_live s ≡ true → is_queued k d m ≡ true
    its-lived d s is live = ap (λ o. option_map_or is_live o false) (alike.slots m d moves.apart) ∙ moves.lived d s is live

    queues-moved : (d : ℕ) → queue (followed_by k e) d ≡ queue (followed_by h e) d
    queues-moved d =
        queue-moved k e its-none m moves.others d (its-lived d)
        ∙ (ap (filter (is_queued (followed_by k e) d)) (alike.queues d)
        ∙ (filter-agree (is_queued h d) (is_queued (followed_by k e) d) (is_queued (followed_by h e) d)
        (λ n queued. ap (λ o. option_map_or is_live o false) (slot-alike n d (queued-outside aside h k alike n d queued))) (numbers h)
        ∙ sym (queue-moved h e none m moves.others d (moves.lived d))))

    counts-moved : (d before its_before : ℕ) (so : SlotState → Bool) → its_before + slot_count k d so ≡ before + slot_count h d so
        → its_before + slot_count (followed_by k e) d so ≡ before + slot_count (followed_by h e) d so
    counts-moved d before its_before so start =
        let exists = moves.exists in
        let its_exists : m < message_count k = rw alike.messages exists in
        moved-sums its_before before (slot_count k d so) (slot_count h d so) (slot_count (followed_by k e) d so) (slot_count (followed_by h e) d so)
        (cond (option_map_or so (slot k m d) false) 1 0) (cond (option_map_or so (slot h m d) false) 1 0)
        (cond (option_map_or so (slot (followed_by k e) m d) false) 1 0) (cond (option_map_or so (slot (followed_by h e) m d) false) 1 0)
        start (slots-moved k e its-none m moves.others its_exists d so) (slots-moved h e none m moves.others exists d so)
        (ap (λ o. cond (option_map_or so o false) 1 0) (alike.slots m d moves.apart))
        (ap (λ o. cond (option_map_or so o false) 1 0) (slot-alike m d moves.apart))

    -- what is aside isn't the message
    aside-other : (n : ℕ) → aside.messages n ≡ true → n ≢ m
    aside-other n is same = let no : aside.messages n ≡ false = ap aside.messages same ∙ moves.apart in absurd cc

    settled-moved : (n d : ℕ) → aside.messages n ≡ true → is_queued (followed_by h e) d n ≡ false
    settled-moved n d is = ap (λ o. option_map_or is_live o false) (slot-other h e none m moves.others n d (aside-other n is)) ∙ alike.settled n d is

    passed : (m n count : ℕ) → count ≤ n → m < count → n ≡ m → ⊥
    passed m n count later exists e = omega arith

    to_come-moved : (g : History) → Orderly g → accepted_by (plan_in_force g) e ≡ None → m < message_count g → (n d : ℕ) → message_count (followed_by g e) ≤ n → state (followed_by g e) n d ≡ Waiting 0 0
    to_come-moved g good nothing exists n d beyond =
        let later : message_count g ≤ n = rw (count-unmoved g e nothing) at beyond in
        state-followed_by g e n d ∙ (ap (λ o. option_map_or (λ x. x) o (state g n d)) (moves.others n d (passed m n (message_count g) later exists)) ∙ good.to_come n d later)

    changes-moved : Changes aside h k e
    changes-moved = record {
      queues = queues-moved;
      counts = counts-moved;
      settled = settled-moved;
      slots = slot-alike;
      to_come = to_come-moved h orderly none moves.exists;
      its_to_come = to_come-moved k its its-none (subst (λ c. m < c) (sym alike.messages) moves.exists);
    }

  -- ---- an entry that touches no slot
  module _ (still : (n d : ℕ) → state_by n d e ≡ None) where
    slot-now : (n d : ℕ) → aside.messages n ≡ false → slot (followed_by k e) n d ≡ slot (followed_by h e) n d
    slot-now n d apart =
        slot-added k e still its.to_come n d
        ∙ ((λ i. cond (n == alike.messages i) (fresh d (same-message i)) (alike.slots n d apart i)) ∙ sym (slot-added h e still orderly.to_come n d))

    queues-added : (d : ℕ) → queue (followed_by k e) d ≡ queue (followed_by h e) d
    queues-added d =
        queue-added k e still its.to_come d
        ∙ ((λ i. alike.queues d i ++ queued_now d (alike.messages i) (same-message i)) ∙ sym (queue-added h e still orderly.to_come d))

    counts-added : (d before its_before : ℕ) (so : SlotState → Bool) → its_before + slot_count k d so ≡ before + slot_count h d so
        → its_before + slot_count (followed_by k e) d so ≡ before + slot_count (followed_by h e) d so
    counts-added d before its_before so start =
        added-sums its_before before (slot_count k d so) (slot_count h d so) (slot_count (followed_by k e) d so) (slot_count (followed_by h e) d so)
        (cond (option_map_or so (fresh d (accepted_by (plan_in_force k) e)) false) 1 0) (cond (option_map_or so (fresh d (accepted_by (plan_in_force h) e)) false) 1 0)
        start (slots-added k e still its.to_come d so) (slots-added h e still orderly.to_come d so)
        (ap (λ o. cond (option_map_or so (fresh d o) false) 1 0) same-message)

    settled-added : (n d : ℕ) → aside.messages n ≡ true → is_queued (followed_by h e) d n ≡ false
    settled-added n d is =
        let below = alike.earlier n is in
        let other : (n == message_count h) ≡ false = grind (arith, nat_tests) in
        ap (λ o. option_map_or is_live o false) (slot-added h e still orderly.to_come n d ∙ ap (λ b. cond b (fresh d (accepted_by (plan_in_force h) e)) (slot h n d)) other) ∙ alike.settled n d is

    to_come-added : (g : History) → Orderly g → (n d : ℕ) → message_count (followed_by g e) ≤ n → state (followed_by g e) n d ≡ Waiting 0 0
    to_come-added g good n d beyond =
        let count = count-followed_by g e in
        state-followed_by g e n d ∙ (ap (λ o. option_map_or (λ x. x) o (state g n d)) (still n d) ∙ good.to_come n d (omega arith))

    changes-added : Changes aside h k e
    changes-added = record {
      queues = queues-added;
      counts = counts-added;
      settled = settled-added;
      slots = slot-now;
      to_come = to_come-added h orderly;
      its_to_come = to_come-added k its;
    }

  -- ---- either

  -- the counters of a destination stay alike
  destinations-alike : Changes aside h k e → (d : ℕ) → d < 32 → destination_counts (followed_by k e) d ≡ destination_counts (followed_by h e) d
  destinations-alike changes d below =
      λ i. record { waiting = waiting i; inflight = inflight i; delivered = delivered i; failed = failed i; attempts = attempts i }
    where
      was : destination_counts k d ≡ destination_counts h d
      was = alike.destinations d below

      waiting : slot_count (followed_by k e) d is_waiting ≡ slot_count (followed_by h e) d is_waiting
      waiting = let start = ap (λ c. c.waiting) was in let then = changes.counts d 0 0 is_waiting (omega arith) in omega arith

      inflight : slot_count (followed_by k e) d is_in_flight ≡ slot_count (followed_by h e) d is_in_flight
      inflight = let start = ap (λ c. c.inflight) was in let then = changes.counts d 0 0 is_in_flight (omega arith) in omega arith

      delivered : (destination_before k d).delivered + slot_count (followed_by k e) d is_delivered ≡ (destination_before h d).delivered + slot_count (followed_by h e) d is_delivered
      delivered = changes.counts d (destination_before h d).delivered (destination_before k d).delivered is_delivered (ap (λ c. c.delivered) was)

      failed : (destination_before k d).failed + slot_count (followed_by k e) d is_failed ≡ (destination_before h d).failed + slot_count (followed_by h e) d is_failed
      failed = changes.counts d (destination_before h d).failed (destination_before k d).failed is_failed (ap (λ c. c.failed) was)

      attempts : (destination_before k d).attempts + count_by (is_take_at d) (k.entries ++ e ∷ []) ≡ (destination_before h d).attempts + count_by (is_take_at d) (h.entries ++ e ∷ [])
      attempts =
          let start = ap (λ c. c.attempts) was in
          let mine = count-push (is_take_at d) h.entries e in
          let yours = count-push (is_take_at d) k.entries e in omega arith

  keys-alike : (key : List ℕ) → aside.keys key ≡ false → known (followed_by k e) key ≡ known (followed_by h e) key
  keys-alike key apart =
      known-followed_by k e key
      ∙ ((λ i. option_map_or (λ place. Some place) (alike.keys key apart i) (cond (keeps key e) (Some (alike.places i)) None)) ∙ sym (known-followed_by h e key))

  bytes-alike : (key raw : List ℕ) (place : ℕ) → aside.keys key ≡ false → known (followed_by h e) key ≡ Some place → brings_at (followed_by k e) raw place ≡ brings_at (followed_by h e) raw place
  bytes-alike key raw place apart is = by (known h key) (keeps key e) refl (sym (known-followed_by h e key) ∙ is)
    where
      by : (o : Option ℕ) (b : Bool) → known h key ≡ o → option_map_or (λ p. Some p) o (cond b (Some (next_place h)) None) ≡ Some place
          → brings_at (followed_by k e) raw place ≡ brings_at (followed_by h e) raw place
      by (Some p) b was is =
          let same : p ≡ place = cc in
          let there : known h key ≡ Some place = cc in
          let inside = orderly.inside key place there in
          let its_inside : place < next_place k = rw alike.places inside in
          bytes-before k e raw place its_inside ∙ (alike.bytes key raw place apart there ∙ sym (bytes-before h e raw place inside))
      by None true was is =
          let same : next_place h ≡ place = cc in
          subst (λ p. brings_at (followed_by k e) raw p ≡ brings_at (followed_by h e) raw p) same
          (subst (λ p. brings_at (followed_by k e) raw p ≡ brings raw e) alike.places (bytes-now k e its raw) ∙ sym (bytes-now h e orderly raw))
      by None false was is = absurd cc

  orderly-after : (g : History) → Orderly g → ((n d : ℕ) → message_count (followed_by g e) ≤ n → state (followed_by g e) n d ≡ Waiting 0 0) → Orderly (followed_by g e)
  orderly-after g good to_come = record {
    places = good.places;
    inside = λ key place is. subst (λ p. place < p) (sym (place-followed_by g e)) (known-inside g e good key place is);
    to_come = to_come;
  }

  -- with an entry that does the same to slots, histories stay alike and orderly
  stays-alike : Changes aside h k e → IsAlike aside (followed_by h e) (followed_by k e) × Orderly (followed_by h e) × Orderly (followed_by k e)
  stays-alike changes = (
    record {
      plan = plan-followed_by k e ∙ (ap (λ p. plan_after p e) alike.plan ∙ sym (plan-followed_by h e));
      places = place-followed_by k e ∙ (ap (λ p. p + 1) alike.places ∙ sym (place-followed_by h e));
      messages = count-followed_by k e ∙ ((λ i. alike.messages i + length (option_to_list (same-message i))) ∙ sym (count-followed_by h e));
      deployments = deployments-followed_by k e ∙ (ap (λ n. n + length (option_to_list (deployed_by e))) alike.deployments ∙ sym (deployments-followed_by h e));
      channels = λ c below. channel-followed_by k e c ∙ (ap (with_told c e) (alike.channels c below) ∙ sym (channel-followed_by h e c));
      destinations = destinations-alike changes;
      queues = changes.queues;
      earlier = λ n is. let below = alike.earlier n is in let count = count-followed_by h e in omega arith;
      folded = λ place is. let below = alike.folded place is in let next = place-followed_by h e in omega arith;
      settled = changes.settled;
      entries = λ place apart. entry-followed_by k e place ∙ ((λ i. cond (place == alike.places i) (Some e) (alike.entries place apart i)) ∙ sym (entry-followed_by h e place));
      message = λ n apart. message-followed_by k e n ∙ ((λ i. cond (n == alike.messages i) (same-message i) (alike.message n apart i)) ∙ sym (message-followed_by h e n));
      slots = changes.slots;
      keys = keys-alike;
      bytes = bytes-alike;
    },
    orderly-after h orderly changes.to_come,
    orderly-after k its changes.its_to_come,
  )

  pub moved-alike : (m : ℕ) → Moves aside h e m → IsAlike aside (followed_by h e) (followed_by k e) × Orderly (followed_by h e) × Orderly (followed_by k e)
  moved-alike m moves = stays-alike (changes-moved m moves)

  pub added-alike : ((n d : ℕ) → state_by n d e ≡ None) → IsAlike aside (followed_by h e) (followed_by k e) × Orderly (followed_by h e) × Orderly (followed_by k e)
  added-alike still = stays-alike (changes-added still)
