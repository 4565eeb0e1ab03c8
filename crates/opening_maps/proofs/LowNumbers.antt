-- An opening with its numbers as low as they may be is as good as before.
use Rattle.std.proofs.Common.{◌≡◌, ℕ, false, ◌+◌, ◌-◌, ◌*◌, ◌<◌, ◌≤◌, List, [], ◌∷◌, length, map, Option, None, Some, refl, sym, ◌∙◌, ap, subst, arith, min, max}
use Rattle.std.specs.Prelude.{All, AllPairs, find, is_some}
use Rattle.std.specs.List.{AllByRecursion, filter_map}
use Rattle.std.specs.List.Sorted.{IsStrictlyIncreasing}
use Rattle.std.specs.Option.{option_map, option_map_or}
use Rattle.std.specs.Str.{bytes_eq}
use Rattle.std.proofs.lemmas.Grind.{div_ceil_times}
use Rattle.std.proofs.lemmas.List.{get_or-map, length-map}
use Rattle.std.proofs.lemmas.List.Elements.{All-from_recursion, recursion_from_All}
use Rattle.plan_text.specs.Entries.{PlanEntry}
use Rattle.judge_core.specs.Judging.{key_of}
use Rattle.event_log.specs.declared.entry.Told.{Told}
use Rattle.event_log.specs.declared.entry.Told.TheVariants as told
use Rattle.event_log.specs.Answers.{attempts_max, has_key, is_kept, known}
use Rattle.event_log.specs.Counting.{destination_counts}
use Rattle.event_log.specs.History.{Remembered, Snapshot, begun, message_at, slot}
use Rattle.event_log.specs.Room.{owed, slot_owed}
use Rattle.event_log.specs.inner.History.{forgotten_messages, number_of}
use Rattle.event_log.specs.inner.Legal.{AreForgotten, IsGoodOpening, IsMemory}
use Rattle.event_log.proofs.Beginning.{find-all}
use Rattle.event_log.proofs.Recalling.{find-map}
use Rattle.opening_maps.specs.declared.rebasing.Lowered.{Lowered}
use Rattle.opening_maps.specs.inner.Rebased.{arrival_lower, first_number, first_place, least_places, least_prunings, lower_messages, lower_places, lowering, most_attempts, most_received, most_settled, opening_lower, rebased, told_lower}
use Rattle.opening_maps.proofs.Lower.{destination-lower, forgotten-lower, lower-numbers, lower-places, message-below, message-lower, slot-lower, total-lower}
use Rattle.opening_maps.proofs.Rising.{all-from, first-within, lower-increase}
use Rattle.opening_maps.proofs.Sums.{all-most}

-- ---- numbers

-- as many are left as have to be
enough : (x high first least : ℕ) → x ≤ high → x ≤ least → x ≤ high - min first (high - least)
enough x high first least within few = omega arith

settled-enough : (x all left rest first most : ℕ) → x ≤ all → x ≤ most → all ≡ first + rest → all ≡ (first - most) + left → x ≤ left
settled-enough x all left rest first most within few parts lower = omega arith

prunings-enough : (places prunings left needed : ℕ) → left ≤ places → places ≤ prunings * 1000000 → left ≤ needed * 1000000 → left ≤ (prunings - (prunings - needed)) * 1000000
prunings-enough places prunings left needed less fits enough = omega arith

less-sub : (a b : ℕ) → a - b ≤ a
less-sub a b = omega arith

less-min : (a b : ℕ) → min a b ≤ a
less-min a b = omega arith

pub less-both : (a b c : ℕ) → a ≤ b → b ≤ c → a ≤ c
less-both a b c less more = omega arith

fewer : (a b k : ℕ) → a ≤ b → a - k ≤ b
fewer a b k less = omega arith

same-least : (a : ℕ) → a ≤ a
same-least a = omega arith

both : (n m k : ℕ) → n ≤ m → n + k ≤ m + k
both n m k less = omega arith

up : (m high k : ℕ) → m < high - k → m + k < high
up m high k less = omega arith

among-messages : (a b : ℕ) → a ≤ max a b
among-messages a b = omega arith

among-received : (x a b c : ℕ) → x ≤ b → x ≤ max a (max b c)
among-received x a b c less = omega arith

among-attempts : (x a b c : ℕ) → x ≤ c → x ≤ max a (max b c)
among-attempts x a b c less = omega arith

-- ---- lists

number-below : (high by : ℕ) (ns : List ℕ) → AllByRecursion (λ n. by ≤ n) ns → AllByRecursion (λ n. n < high) ns → AllByRecursion (λ n. n < high - by) (map (λ n. n - by) ns)
number-below high by [] from within = tt
number-below high by (n ∷ ns) from within = let least = from.0 in let below = within.0 in (omega arith, number-below high by ns from.1 within.1)

place-from : (by : ℕ) (rs : List Remembered) → AllByRecursion (λ n. by ≤ n) (map (λ r. r.place) rs) → AllByRecursion (λ r. by ≤ r.place) rs
place-from by [] from = tt
place-from by (r ∷ rs) from = (from.0, place-from by rs from.1)

pub place-within : (high : ℕ) (rs : List Remembered) → AllByRecursion (λ r. r.place < high) rs → AllByRecursion (λ n. n < high) (map (λ r. r.place) rs)
place-within high [] within = tt
place-within high (r ∷ rs) within = (within.0, place-within high rs within.1)

place-below : (high : ℕ) (by : Lowered) (rs : List Remembered) → AllByRecursion (λ r. by.places ≤ r.place) rs → AllByRecursion (λ r. r.place < high) rs
    → AllByRecursion (λ r. r.place < high - by.places) (map (arrival_lower by) rs)
place-below high by [] from within = tt
place-below high by (r ∷ rs) from within = let least = from.0 in let below = within.0 in (omega arith, place-below high by rs from.1 within.1)

abbrev own_key : Remembered → List ℕ
own_key r = key_of r.channel r.raw

apart-lower : (by : Lowered) (rs : List Remembered) → AllPairs (λ r s. has_key (key_of r.channel r.raw) s ≡ false) rs
    → AllPairs (λ r s. has_key (key_of r.channel r.raw) s ≡ false) (map (arrival_lower by) rs)
apart-lower by rs apart i j d before inside =
    let many = length-map rs (arrival_lower by) in
    let later : j < length rs = omega arith in
    let earlier : i < length rs = omega arith in
    (λ t. bytes_eq (own_key (get_or-map (arrival_lower by) rs i d d earlier t)) (own_key (get_or-map (arrival_lower by) rs j d d later t))) ∙ apart i j d before later

-- ---- memories

kept-lower : (by : ℕ) (t : Told) → is_kept (told_lower by t) ≡ is_kept t
kept-lower by (told.Accepted k) = refl
kept-lower by told.Filtered = refl
kept-lower by (told.Refused cause) = refl
kept-lower by (told.Repeat place) = refl

filtered-lower : (by : ℕ) (t : Told) → told_lower by t ≡ told.Filtered → t ≡ told.Filtered
filtered-lower by (told.Accepted k) is = absurd cc
filtered-lower by told.Filtered is = refl
filtered-lower by (told.Refused cause) is = absurd cc
filtered-lower by (told.Repeat place) is = absurd cc

memories-lower : (plan : PlanEntry) (by : Lowered) (rs : List Remembered) → AllByRecursion (IsMemory plan) rs → AllByRecursion (IsMemory plan) (map (arrival_lower by) rs)
memories-lower plan by [] all = tt
memories-lower plan by (r ∷ rs) all = (
  record {
    fits = all.0.fits;
    kept = kept-lower by.messages r.told ∙ all.0.kept;
    nowhere = λ is. all.0.nowhere (filtered-lower by.messages r.told is);
    deliveries = all.0.deliveries;
    slots = all.0.slots;
    attempts = all.0.attempts;
  },
  memories-lower plan by rs all.1,
)

-- the indices of what is lowered increase
pub places_rise : (o : Snapshot) (by : Lowered) (rs lower : List Remembered) → by ≡ lowering o → rs ≡ o.remembered → lower ≡ map (arrival_lower by) rs
    → IsStrictlyIncreasing (map (λ (r : Remembered). r.place) rs) → IsStrictlyIncreasing (map (λ (r : Remembered). r.place) lower)
places_rise o by rs lower same these is rise =
    let first : ℕ = first_place o in
    let less : by.places ≤ first = subst (λ (l : Lowered). l.places ≤ first) (sym same) (less-min first (o.places - least_places (o.messages - lower_messages o) o.forgotten)) in
    let own : IsStrictlyIncreasing (map (λ (r : Remembered). r.place) o.remembered) = subst (λ (xs : List Remembered). IsStrictlyIncreasing (map (λ (r : Remembered). r.place) xs)) these rise in
    let all : IsStrictlyIncreasing (map (λ n. n - by.places) (map (λ (r : Remembered). r.place) o.remembered))
    = lower-increase by.places o.places (map (λ (r : Remembered). r.place) o.remembered) own less in
    subst (λ (xs : List Remembered). IsStrictlyIncreasing (map (λ (r : Remembered). r.place) xs)) (sym (is ∙ ap (map (arrival_lower by)) these))
    (subst IsStrictlyIncreasing (sym (lower-places by o.remembered)) all)

-- ---- an opening

module _ (o : Snapshot) (good : IsGoodOpening o) where
  abbrev by : Lowered
  by = lowering o

  abbrev ns : List ℕ
  ns = filter_map number_of o.remembered

  numbers-within : AllByRecursion (λ n. n < o.messages) ns
  numbers-within = recursion_from_All (λ n. n < o.messages) ns good.numbers_within

  pub first-fits : first_number o ≤ o.messages
  first-fits = first-within o.messages ns numbers-within

  -- none that is remembered has a lower one
  pub all-from-number : AllByRecursion (λ n. first_number o ≤ n) ns
  all-from-number = all-from (first_number o) o.messages ns good.numbers (same-least (first_number o))

  pub first-place-fits : first_place o ≤ o.places
  first-place-fits = first-within o.places (map (λ r. r.place) o.remembered)
      (place-within o.places o.remembered (recursion_from_All (λ r. r.place < o.places) o.remembered good.places_within))

  number-less : lower_messages o ≤ first_number o
  number-less = less-sub (first_number o) (most_settled o.forgotten)

  messages-fit : lower_messages o ≤ o.messages
  messages-fit = less-both (lower_messages o) (first_number o) o.messages number-less first-fits

  from-number : AllByRecursion (λ n. lower_messages o ≤ n) ns
  from-number = all-from (lower_messages o) o.messages ns good.numbers number-less

  place-less : lower_places o ≤ first_place o
  place-less = less-min (first_place o) (o.places - least_places (o.messages - lower_messages o) o.forgotten)

  from-place : AllByRecursion (λ r. lower_places o ≤ r.place) o.remembered
  from-place = place-from (lower_places o) o.remembered (all-from (lower_places o) o.places (map (λ r. r.place) o.remembered) good.places place-less)

  -- messages, slots and what they owe and count
  pub messages-same : (n : ℕ) → message_at (begun (rebased o)) n ≡ message_at (begun o) (n + (lowering o).messages)
  messages-same = message-lower by o messages-fit from-number

  pub slots-same : (n d : ℕ) → slot (begun (rebased o)) n d ≡ slot (begun o) (n + (lowering o).messages) d
  slots-same = slot-lower by o messages-fit from-number

  pub counts-same : (d : ℕ) → destination_counts (begun (rebased o)) d ≡ destination_counts (begun o) d
  counts-same = destination-lower by o messages-fit from-number

  -- a message below those that are left is forgotten
  pub message-gone : (n : ℕ) → n < (lowering o).messages → message_at (begun o) n ≡ None
  message-gone = message-below by o messages-fit from-number

  pub owed-same : owed (begun (rebased o)) ≡ owed (begun o)
  owed-same = total-lower by o messages-fit from-number (λ d. slot_owed (attempts_max o.plan d))

  -- a key is known by an index that is lower by as much
  pub known-same : (key : List ℕ) → option_map (λ place. place + (lowering o).places) (known (begun (rebased o)) key) ≡ known (begun o) key
  known-same key =
      ap (λ found. option_map (λ place. place + lower_places o) (option_map_or (λ place. Some place) (option_map (λ (r : Remembered). r.place) found) None))
      (find-map (has_key key) (arrival_lower by) (λ r. refl) o.remembered)
      ∙ at (find (has_key key) o.remembered) refl
    where
      back : (a b : ℕ) → a ≤ b → (b - a) + a ≡ b
      back a b less = omega arith

      at : (found : Option Remembered) → find (has_key key) o.remembered ≡ found
          → option_map (λ place. place + lower_places o) (option_map_or (λ place. Some place) (option_map (λ (r : Remembered). r.place) (option_map (arrival_lower by) found)) None)
          ≡ option_map_or (λ place. Some place) (option_map (λ (r : Remembered). r.place) found) None
      at None is = refl
      at (Some r) is =
          let from = find-all (λ r. lower_places o ≤ r.place) (has_key key) o.remembered r
          (All-from_recursion (λ (r : Remembered). lower_places o ≤ r.place) o.remembered from-place) is in
          ap (λ k. Some k) (back (lower_places o) r.place from)

  abbrev at-first : Lowered
  at-first = record { places = 0; messages = first_number o; deployments = 0; prunings = 0 }

  abbrev least : ℕ
  least = least_places (o.messages - lower_messages o) o.forgotten

  -- as many folded entries are left as channels and destinations count
  forgotten-enough : AreForgotten (o.places - lower_places o) (forgotten_messages (begun (rebased o))) o.forgotten
  forgotten-enough = record {
    statistics = good.forgotten.statistics;
    received = λ k d inside. enough _ o.places (first_place o) least (good.forgotten.received k d inside)
        (among-received _ (o.messages - lower_messages o) (most_received o.forgotten) (most_attempts o.forgotten)
        (All-from_recursion (λ c. c.received + c.repeats ≤ most_received o.forgotten) o.forgotten.channels (all-most (λ c. c.received + c.repeats) 0 o.forgotten.channels) k d inside));
    settled = good.forgotten.settled;
    named = λ k d inside. settled-enough _ (forgotten_messages (begun o)) (forgotten_messages (begun (rebased o))) (forgotten_messages (begun (opening_lower at-first o)))
        (first_number o) (most_settled o.forgotten) (good.forgotten.named k d inside)
        (All-from_recursion (λ d. d.delivered + d.failed ≤ most_settled o.forgotten) o.forgotten.destinations (all-most (λ d. d.delivered + d.failed) 0 o.forgotten.destinations) k d inside)
        (forgotten-lower at-first o first-fits all-from-number)
        (forgotten-lower by o messages-fit from-number);
    taken = λ k d inside. enough _ o.places (first_place o) least (good.forgotten.taken k d inside)
        (among-attempts _ (o.messages - lower_messages o) (most_received o.forgotten) (most_attempts o.forgotten)
        (All-from_recursion (λ d. d.attempts ≤ most_attempts o.forgotten) o.forgotten.destinations (all-most (λ d. d.attempts) 0 o.forgotten.destinations) k d inside));
  }

  pub good-rebased : IsGoodOpening (rebased o)
  good-rebased = record {
    plan = good.plan;
    memories = All-from_recursion (IsMemory o.plan) (map (arrival_lower by) o.remembered)
        (memories-lower o.plan by o.remembered (recursion_from_All (IsMemory o.plan) o.remembered good.memories));
    places = subst IsStrictlyIncreasing (sym (lower-places by o.remembered))
        (lower-increase (lower_places o) o.places (map (λ r. r.place) o.remembered) good.places place-less);
    places_within = All-from_recursion (λ r. r.place < o.places - lower_places o) (map (arrival_lower by) o.remembered)
        (place-below o.places by o.remembered from-place (recursion_from_All (λ r. r.place < o.places) o.remembered good.places_within));
    numbers = subst IsStrictlyIncreasing (sym (lower-numbers by o.remembered)) (lower-increase (lower_messages o) o.messages ns good.numbers number-less);
    numbers_within = subst (All (λ n. n < o.messages - lower_messages o)) (sym (lower-numbers by o.remembered))
        (All-from_recursion (λ n. n < o.messages - lower_messages o) (map (λ n. n - lower_messages o) ns) (number-below o.messages (lower_messages o) ns from-number numbers-within));
    in_turn = λ n m le lt is. ap is_some (messages-same m)
        ∙ good.in_turn (n + lower_messages o) (m + lower_messages o) (both n m (lower_messages o) le) (up m o.messages (lower_messages o) lt) (sym (ap is_some (messages-same n)) ∙ is);
    keys = apart-lower by o.remembered good.keys;
    forgotten = forgotten-enough;
    were_taken = λ d below. subst (λ c. c.inflight + c.delivered ≤ c.attempts) (sym (counts-same d)) (good.were_taken d below);
    messages_few = enough (o.messages - lower_messages o) o.places (first_place o) least (fewer o.messages o.places (lower_messages o) good.messages_few)
        (among-messages (o.messages - lower_messages o) (max (most_received o.forgotten) (most_attempts o.forgotten)));
    places_few = prunings-enough o.places o.prunings (o.places - lower_places o) (least_prunings (o.places - lower_places o)) (less-sub o.places (lower_places o)) good.places_few
        (div_ceil_times (o.places - lower_places o) 1000000 (omega arith)).0;
    prunings_few = fewer o.prunings 1000 (o.prunings - least_prunings (o.places - lower_places o)) good.prunings_few;
    room = subst (λ k. k ≤ o.events_max) (sym owed-same) good.room;
  }
