-- What the arrivals of a legal history say.
use Rattle.std.proofs.Common.{◌≡◌, ℕ, ◌+◌, ◌-◌, ◌<◌, ◌≤◌, ◌⊎◌, inl, inr, Bool, true, false, cond, ◌==◌, ◌&&◌, ◌||◌, List, [], ◌∷◌, ◌++◌, length, map, take, get_or, Option, None, Some, refl, sym, ◌∙◌, ap, subst, arith, suc, zero}
use Rattle.std.specs.Prelude.{All, AllPairs, find, nat_lt, slice_get, if◌then◌else◌}
use Rattle.std.specs.List.{filter_map, cons_option, list_any, position, position_or_len}
use Rattle.std.specs.Option.{option_map, option_map_or}
use Rattle.std.proofs.lemmas.Bool.Decides.{nat_tests}
use Rattle.std.proofs.lemmas.List.Elements.{All-head, All-tail}
use Rattle.std.proofs.lemmas.List.Kept.{AllPairs-from_increasing}
use Rattle.std.proofs.lemmas.List.Sums.{fails_before_first, passes_at_first}
use Rattle.std.proofs.lemmas.Option.{cond_some, get_or_from_slice_get, same_Some}
use Rattle.hl7_head.specs.declared.ack.Cause.TheVariants.{IdReused}
use Rattle.plan_text.specs.Entries.{PlanEntry}
use Rattle.judge_core.specs.declared.judged.Verdict.{Verdict}
use Rattle.judge_core.specs.declared.judged.Verdict.TheVariants as verdict
use Rattle.judge_core.specs.Judging.{verdict as decided, deliveries_of, is_bookable, key_of}
use Rattle.event_log.specs.declared.entry.Told.TheVariants as told
use Rattle.event_log.specs.declared.entry.Entry.{Entry}
use Rattle.event_log.specs.declared.entry.Entry.TheVariants.{Arrival, Take, Settle, Cancel, Deploy}
use Rattle.event_log.specs.History.{Accepted, History, Remembered, accepted, accepted_by, accepted_from, accepted_under, before, deployed_by, entry_at, last_from, message_at, message_count, accepted_of, next_place, plan_after, plan_in_force, remembered_as}
use Rattle.event_log.specs.Answers.{arrival_answer, brings, brings_at, brought_before, has_key, is_first, keeps, known, known_before, told_by}
use Rattle.event_log.specs.Legal.{HasArrival, IsLegal, IsRemembered}
use Rattle.event_log.specs.inner.Legal.{IsGoodOpening}
use Rattle.event_log.proofs.Arriving.{accepted-number}
use Rattle.event_log.proofs.Events.{arrival-told}
use Rattle.event_log.proofs.Following.{accepted-kept, entry-held, entry-since, follows-since, last-after}
use Rattle.event_log.proofs.Beginning.{find-all}

-- ---- lists

-- an item among the first is among all
get-taken : {A : Type 0} (xs : List A) (k i : ℕ) (x : A) → slice_get (take k xs) i ≡ Some x → slice_get xs i ≡ Some x
get-taken xs zero i x is = absurd cc
get-taken [] (suc k) i x is = absurd cc
get-taken (y ∷ xs) (suc k) zero x is = is
get-taken (y ∷ xs) (suc k) (suc i) x is = get-taken xs k i x is

-- the first k items are no more than k
length-taken : {A : Type 0} (xs : List A) (k : ℕ) → length (take k xs) ≤ k
length-taken xs zero = omega arith
length-taken [] (suc k) = omega arith
length-taken (x ∷ xs) (suc k) = let rest = length-taken xs k in omega arith

-- the message of an entry stands after those of the entries before it
get-brought : (plan : PlanEntry) (es : List Entry) (k : ℕ) (e : Entry) (m : Accepted) → slice_get es k ≡ Some e → accepted_by (last_from plan (filter_map deployed_by (take k es))) e ≡ Some m
    → slice_get (accepted_from plan es) (length (accepted_from plan (take k es))) ≡ Some m
get-brought plan [] k e m got brings = absurd cc
get-brought plan (x ∷ es) zero e m got brings = let here : accepted_by plan x ≡ Some m = ap (accepted_by plan) (same_Some x e got) ∙ brings in rw here refl
get-brought plan (x ∷ es) (suc k) e m got brings =
    let rest = get-brought (plan_after plan x) es k e m got (ap (λ p. accepted_by p e) (sym (last-after plan x (take k es))) ∙ brings) in
    elim (accepted_by plan x) as (λ o. slice_get (cons_option o (accepted_from (plan_after plan x) es)) (length (cons_option o (accepted_from (plan_after plan x) (take k es)))) ≡ Some m)
    [ None ↦ rest | Some w ↦ rest ]

-- an entry that brings message n, by the plan in force when it came
record BroughtAt (plan : PlanEntry) (es : List Entry) (n : ℕ) (m : Accepted) : Type 0 where
  place : ℕ
  item : Entry
  there : slice_get es place ≡ Some item
  brings : accepted_by (last_from plan (filter_map deployed_by (take place es))) item ≡ Some m
  after : length (accepted_from plan (take place es)) ≡ n

-- each message is brought by an entry
brought-at : (plan : PlanEntry) (es : List Entry) (n : ℕ) (m : Accepted) → slice_get (accepted_from plan es) n ≡ Some m → BroughtAt plan es n m
brought-at plan [] n m got = absurd cc
brought-at plan (x ∷ es) n m got = elim (accepted_by plan x) as (λ o. accepted_by plan x ≡ o → slice_get (cons_option o (accepted_from (plan_after plan x) es)) n ≡ Some m → BroughtAt plan (x ∷ es) n m) [
  | None ↦ λ e rest. let at = brought-at (plan_after plan x) es n m rest in record {
    place = suc at.place;
    item = at.item;
    there = at.there;
    brings = ap (λ p. accepted_by p at.item) (last-after plan x (take at.place es)) ∙ at.brings;
    after = rw e at.after;
  }
  | Some w ↦ λ e rest. first n w e (λ k later. brought-at (plan_after plan x) es k m later) rest
] refl got
  where
    first : (n : ℕ) (w : Accepted) → accepted_by plan x ≡ Some w → ((k : ℕ) → slice_get (accepted_from (plan_after plan x) es) k ≡ Some m → BroughtAt (plan_after plan x) es k m)
        → slice_get (w ∷ accepted_from (plan_after plan x) es) n ≡ Some m → BroughtAt plan (x ∷ es) n m
    first zero w e later is = record { place = zero; item = x; there = refl; brings = e ∙ is; after = refl }
    first (suc n) w e later is = let at = later n is in record {
      place = suc at.place;
      item = at.item;
      there = at.there;
      brings = ap (λ p. accepted_by p at.item) (last-after plan x (take at.place es)) ∙ at.brings;
      after = rw e (ap suc at.after);
    }

-- ---- keys

-- the first item of a list that passes
position-at : (key : List ℕ) (es : List Entry) (k : ℕ) → position (keeps key) es ≡ Some k → (k < length es) × (k ≡ position_or_len (keeps key) es)
position-at key es k is =
    let parts = cond_some (nat_lt (position_or_len (keeps key) es) (length es)) (position_or_len (keeps key) es) k is in
    let inside = parts.0 in let same = parts.1 in (grind (arith, nat_tests), sym same)

-- the item at that place passes
position-keeps : (key : List ℕ) (es : List Entry) (k : ℕ) (e : Entry) → position (keeps key) es ≡ Some k → keeps key (get_or es k e) ≡ true
position-keeps key es k e is =
    let at = position-at key es k is in
    let inside : position_or_len (keeps key) es < length es = subst (λ i. i < length es) at.1 at.0 in
    subst (λ i. keeps key (get_or es i e) ≡ true) (sym at.1) (passes_at_first (keeps key) es e inside)

-- a key that isn't remembered is known at an entry that is held
known-since : (h : History) (key : List ℕ) (place : ℕ) → known_before h.opening key ≡ None → known h key ≡ Some place → (k : ℕ) × (place ≡ h.opening.places + k) × (position (keeps key) h.entries ≡ Some k)
known-since h key place none is = by (position (keeps key) h.entries) refl (ap (λ o. option_map_or (λ p. Some p) o (option_map (λ k. h.opening.places + k) (position (keeps key) h.entries))) (sym none) ∙ is)
  where
    by : (o : Option ℕ) → position (keeps key) h.entries ≡ o → option_map (λ k. h.opening.places + k) o ≡ Some place → (k : ℕ) × (place ≡ h.opening.places + k) × (position (keeps key) h.entries ≡ Some k)
    by None at e = absurd cc
    by (Some k) at e = (k, sym (same_Some (h.opening.places + k) place e), at)

-- one that is remembered is known where its arrival stood
pub known-remembered : (h : History) (key : List ℕ) (place : ℕ) → known_before h.opening key ≡ Some place → known h key ≡ Some place
known-remembered h key place is = ap (λ o. option_map_or (λ p. Some p) o (option_map (λ k. h.opening.places + k) (position (keeps key) h.entries))) is

-- a place that is remembered was folded
pub remembered-place : (h : History) → IsGoodOpening h.opening → (key : List ℕ) (place : ℕ) → known_before h.opening key ≡ Some place → place < h.opening.places
remembered-place h good key place is = by (find (has_key key) h.opening.remembered) refl is
  where
    by : (o : Option Remembered) → find (has_key key) h.opening.remembered ≡ o → option_map (λ r. r.place) o ≡ Some place → place < h.opening.places
    by None found e = absurd cc
    by (Some r) found e =
        let below = find-all (λ r. r.place < h.opening.places) (has_key key) h.opening.remembered r good.places_within found in
        subst (λ p. p < h.opening.places) (same_Some r.place place e) below

-- the place of a key was booked
pub known-inside : (h : History) (key : List ℕ) (place : ℕ) → IsGoodOpening h.opening → known h key ≡ Some place → place < next_place h
known-inside h key place good is = by (known_before h.opening key) refl
  where
    by : (o : Option ℕ) → known_before h.opening key ≡ o → place < next_place h
    by (Some p) seen =
        let same : p ≡ place = same_Some p place (sym (known-remembered h key p seen) ∙ is) in
        let below = remembered-place h good key p seen in omega arith
    by None none =
        let at = known-since h key place none is in
        let inside = (position-at key h.entries at.0 at.2).0 in
        let same = at.1 in omega arith

-- where no remembered arrival has the key, it is known at the first entry that keeps it
module _ (h : History) (key : List ℕ) (k : ℕ) (none : known_before h.opening key ≡ None) (is : known h key ≡ Some (h.opening.places + k)) where
  at-position : position (keeps key) h.entries ≡ Some k
  at-position =
      let at = known-since h key (h.opening.places + k) none is in
      let same = at.1 in
      let own : at.0 ≡ k = omega arith in
      at.2 ∙ ap (λ i. Some i) own

  -- that entry keeps it
  pub known-keeps : (e : Entry) → keeps key (get_or h.entries k e) ≡ true
  known-keeps e = position-keeps key h.entries k e at-position

  -- and none before it does
  pub known-first : (i : ℕ) (e : Entry) → i < k → keeps key (get_or h.entries i e) ≡ false
  known-first i e before =
      let at = position-at key h.entries k at-position in fails_before_first (keeps key) h.entries i e (subst (λ p. i < p) at.1 before)

-- a key that is not known is not remembered
pub unknown-before : (h : History) (key : List ℕ) → known h key ≡ None → known_before h.opening key ≡ None
unknown-before h key none = by (known_before h.opening key) none
  where
    by : (o : Option ℕ) → option_map_or (λ p. Some p) o (option_map (λ k. h.opening.places + k) (position (keeps key) h.entries)) ≡ None → o ≡ None
    by None e = refl
    by (Some p) e = absurd cc

-- and kept by no entry
pub unknown-none : (h : History) (key : List ℕ) (k : ℕ) (e : Entry) → known h key ≡ None → k < length h.entries → keeps key (get_or h.entries k e) ≡ false
unknown-none h key k e none inside = by (nat_lt (position_or_len (keeps key) h.entries) (length h.entries)) refl nowhere
  where
    nowhere : position (keeps key) h.entries ≡ None
    nowhere = to (known_before h.opening key) (position (keeps key) h.entries) none
      where
        to : (o p : Option ℕ) → option_map_or (λ p. Some p) o (option_map (λ k. h.opening.places + k) p) ≡ None → p ≡ None
        to None None e = refl
        to None (Some k) e = absurd cc
        to (Some q) p e = absurd cc

    by : (b : Bool) → nat_lt (position_or_len (keeps key) h.entries) (length h.entries) ≡ b → cond b (Some (position_or_len (keeps key) h.entries)) None ≡ None → keeps key (get_or h.entries k e) ≡ false
    by true at is = absurd cc
    by false at is = let past : length h.entries ≤ position_or_len (keeps key) h.entries = grind (arith, nat_tests) in fails_before_first (keeps key) h.entries k e (omega arith)

-- ---- what arrivals were told

-- an entry that brings a message is its arrival, told Accepted
arrived-by : (plan : PlanEntry) (e : Entry) (m : Accepted) → accepted_by plan e ≡ Some m → (conn : ℕ) × (number : ℕ) × (e ≡ Arrival conn m.channel m.raw (told.Accepted number))
arrived-by plan (Arrival conn channel raw (told.Accepted number)) m is =
    (conn, number, subst (λ (m : Accepted). Arrival conn channel raw (told.Accepted number) ≡ Arrival conn m.channel m.raw (told.Accepted number)) (same_Some (accepted_under plan channel raw) m is) refl)
arrived-by plan (Arrival conn channel raw told.Filtered) m is = absurd cc
arrived-by plan (Arrival conn channel raw (told.Refused cause)) m is = absurd cc
arrived-by plan (Arrival conn channel raw (told.Repeat place)) m is = absurd cc
arrived-by plan (Take ticket now) m is = absurd cc
arrived-by plan (Settle outcome ticket now state) m is = absurd cc
arrived-by plan (Cancel number among mask) m is = absurd cc
arrived-by plan (Deploy next) m is = absurd cc

-- a message that is remembered
remembered-is : (h : History) (n : ℕ) (m : Accepted) (o : Option Remembered) → remembered_as h.opening n ≡ o → option_map accepted_of o ≡ Some m → IsRemembered h n m
remembered-is h n m None found is = absurd cc
remembered-is h n m (Some r) found is = record { arrival = r; found = found; is = sym (same_Some (accepted_of r) m is) }

-- message n has its arrival, told Accepted n, or is remembered
pub message-arrived : (h : History) → IsLegal h → (n : ℕ) (m : Accepted) → message_at h n ≡ Some m → HasArrival h n m ⊎ IsRemembered h n m
message-arrived h legal n m got =
    elim (nat_lt n h.opening.messages) as (λ b. nat_lt n h.opening.messages ≡ b → cond b (option_map accepted_of (remembered_as h.opening n)) (slice_get (accepted h) (n - h.opening.messages)) ≡ Some m → HasArrival h n m ⊎ IsRemembered h n m) [
      | true ↦ λ before is. inr (remembered-is h n m (remembered_as h.opening n) refl is)
      | false ↦ λ since is. inl (arrived since is)
    ] refl got
  where
    arrived : nat_lt n h.opening.messages ≡ false → slice_get (accepted h) (n - h.opening.messages) ≡ Some m → HasArrival h n m
    arrived since is =
        let at = brought-at h.opening.plan h.entries (n - h.opening.messages) m is in
        let earlier : History = record { opening = h.opening; entries = take at.place h.entries } in
        let by = arrived-by (plan_in_force earlier) at.item m at.brings in
        let there : slice_get h.entries at.place ≡ Some (Arrival by.0 m.channel m.raw (told.Accepted by.1)) = at.there ∙ ap (λ e. Some e) by.2 in
        let may = follows-since h legal at.place (Arrival by.0 m.channel m.raw (told.Accepted by.1)) there in
        let next = accepted-number earlier m.channel m.raw by.1 (arrival-told earlier by.0 m.channel m.raw (told.Accepted by.1) may.replied) in
        let count = at.after in
        let past : h.opening.messages ≤ n = grind (arith, nat_tests) in
        let number : by.1 ≡ n = omega arith in
        record {
          place = h.opening.places + at.place;
          conn = by.0;
          entry = entry-since h at.place ∙ (there ∙ ap (λ k. Some (Arrival by.0 m.channel m.raw (told.Accepted k))) number);
        }

-- an arrival told Accepted n is message n
pub accepted-is : (h : History) → IsLegal h → (place conn channel n : ℕ) (raw : List ℕ) → entry_at h place ≡ Some (Arrival conn channel raw (told.Accepted n))
    → message_at h n ≡ Some (accepted_under (plan_in_force (before h place)) channel raw)
accepted-is h legal place conn channel n raw got =
    let k : ℕ = place - h.opening.places in
    let may = legal.follows place (Arrival conn channel raw (told.Accepted n)) got in
    let number : n ≡ message_count (before h place) = accepted-number (before h place) channel raw n (arrival-told (before h place) conn channel raw (told.Accepted n) may.replied) in
    let since : nat_lt n h.opening.messages ≡ false = grind (arith, nat_tests) in
    let own : n - h.opening.messages ≡ length (accepted (before h place)) = omega arith in
    rw (since, own) (get-brought h.opening.plan h.entries k (Arrival conn channel raw (told.Accepted n)) (accepted_under (plan_in_force (before h place)) channel raw)
    (entry-held h place (Arrival conn channel raw (told.Accepted n)) got).1 refl)

-- only a message that its channel sends nowhere is told that it was filtered
judged-filtered : (v : Verdict) (count : ℕ) → told_by count v ≡ Some told.Filtered → deliveries_of v ≡ []
judged-filtered verdict.Unreadable count is = refl
judged-filtered verdict.Stray count is = refl
judged-filtered (verdict.Refuse cause) count is = refl
judged-filtered verdict.Filtered count is = refl
judged-filtered (verdict.Accept deliveries) count is = absurd cc

-- a message that came before isn't told so
again-filtered : (same : Bool) (place : ℕ) → Some (if same then told.Repeat place else told.Refused IdReused) ≡ Some told.Filtered → ⊥
again-filtered true place is = cc
again-filtered false place is = cc

told-filtered : (bookable : Bool) (seen : Option ℕ) (same : ℕ → Bool) (v : Verdict) (count : ℕ)
    → (if bookable then option_map_or (λ place. Some (if same place then told.Repeat place else told.Refused IdReused)) seen (told_by count v) else None) ≡ Some told.Filtered → deliveries_of v ≡ []
told-filtered false seen same v count is = absurd cc
told-filtered true None same v count is = judged-filtered v count is
told-filtered true (Some k) same v count is = absurd (again-filtered (same k) k is)

filtered-answer : (h : History) (channel : ℕ) (raw : List ℕ) → arrival_answer h channel raw ≡ Some told.Filtered → deliveries_of (decided (plan_in_force h) channel raw) ≡ []
unfolding arrival_answer
filtered-answer h channel raw is =
    told-filtered (is_bookable raw) (known h (key_of channel raw)) (brings_at h raw) (decided (plan_in_force h) channel raw) (message_count h) is

-- the first items and one more
pub take-more : {A : Type 0} (xs : List A) (k : ℕ) (x : A) → slice_get xs k ≡ Some x → take (suc k) xs ≡ take k xs ++ x ∷ []
take-more [] k x got = absurd cc
take-more (y ∷ xs) zero x got = ap (λ z. z ∷ []) (same_Some y x got)
take-more (y ∷ xs) (suc k) x got = ap (λ zs. y ∷ zs) (take-more xs k x got)

-- an arrival told Filtered goes nowhere, and is no message
pub filtered-is : (h : History) → IsLegal h → (place conn channel : ℕ) (raw : List ℕ) → entry_at h place ≡ Some (Arrival conn channel raw told.Filtered)
    → (deliveries_of (decided (plan_in_force (before h place)) channel raw) ≡ []) × (accepted (before h (place + 1)) ≡ accepted (before h place))
filtered-is h legal place conn channel raw got =
    let may = legal.follows place (Arrival conn channel raw told.Filtered) got in
    let at = entry-held h place (Arrival conn channel raw told.Filtered) got in
    let held = at.0 in
    let past : h.opening.places ≤ place = grind (arith, nat_tests) in
    let next : place + 1 - h.opening.places ≡ suc (place - h.opening.places) = omega arith in (
      filtered-answer (before h place) channel raw (arrival-told (before h place) conn channel raw told.Filtered may.replied),
      rw next (ap (λ es. accepted (record { opening = h.opening; entries = es })) (take-more h.entries (place - h.opening.places) (Arrival conn channel raw told.Filtered) at.1)
          ∙ accepted-kept (before h place) (Arrival conn channel raw told.Filtered) refl),
    )

-- only a message whose key is known is told that it came before
judged-first : (v : Verdict) (count place : ℕ) → told_by count v ≡ Some (told.Repeat place) → ⊥
judged-first verdict.Unreadable count place is = absurd cc
judged-first verdict.Stray count place is = absurd cc
judged-first (verdict.Refuse cause) count place is = absurd cc
judged-first verdict.Filtered count place is = absurd cc
judged-first (verdict.Accept deliveries) count place is = absurd cc

-- and only where the bytes are the same
again-same : (same : Bool) (seen place : ℕ) → Some (if same then told.Repeat seen else told.Refused IdReused) ≡ Some (told.Repeat place) → (seen ≡ place) × (same ≡ true)
again-same true seen place is = (cc, refl)
again-same false seen place is = absurd cc

-- so an answer that a message came before says where
told-before : (bookable : Bool) (seen : Option ℕ) (same : ℕ → Bool) (v : Verdict) (count place : ℕ)
    → (if bookable then option_map_or (λ place. Some (if same place then told.Repeat place else told.Refused IdReused)) seen (told_by count v) else None) ≡ Some (told.Repeat place)
    → (seen ≡ Some place) × (same place ≡ true)
told-before false seen same v count place is = absurd cc
told-before true None same v count place is = absurd (judged-first v count place is)
told-before true (Some k) same v count place is = let parts = again-same (same k) k place is in (ap (λ k. Some k) parts.0, ap same (sym parts.0) ∙ parts.1)

-- a message that is told that it came before has its key and its bytes at that place
repeat-found : (h : History) (channel : ℕ) (raw : List ℕ) (place : ℕ) → arrival_answer h channel raw ≡ Some (told.Repeat place)
    → (known h (key_of channel raw) ≡ Some place) × (brings_at h raw place ≡ true)
unfolding arrival_answer
repeat-found h channel raw place is =
    told-before (is_bookable raw) (known h (key_of channel raw)) (brings_at h raw) (decided (plan_in_force h) channel raw) (message_count h) place is

-- no arrival that stood at a later place stood at this one
none-later : (rs : List Remembered) (place : ℕ) (raw : List ℕ) → All (λ p. place < p) (map (λ r. r.place) rs) → list_any (brought_before place raw) rs ≡ false
none-later [] place raw later = refl
none-later (r ∷ rs) place raw later =
    let above : place < r.place = All-head (λ p. place < p) r.place (map (λ r. r.place) rs) later in
    let differs : (r.place == place) ≡ false = grind (arith, nat_tests) in
    rw differs (none-later rs place raw (All-tail (λ p. place < p) r.place (map (λ r. r.place) rs) later))

-- and none that was folded stood at a place since
none-before : (rs : List Remembered) (bound place : ℕ) (raw : List ℕ) → All (λ r. r.place < bound) rs → bound ≤ place → list_any (brought_before place raw) rs ≡ false
none-before [] bound place raw below past = refl
none-before (r ∷ rs) bound place raw below past =
    let under : r.place < bound = All-head (λ r. r.place < bound) r rs below in
    let differs : (r.place == place) ≡ false = grind (arith, nat_tests) in
    rw differs (none-before rs bound place raw (All-tail (λ r. r.place < bound) r rs below) past)

-- an arrival that is found stands above all places that each of the arrivals stands above
found-later : (key : List ℕ) (rs : List Remembered) (r : Remembered) (place : ℕ) → All (λ p. place < p) (map (λ r. r.place) rs) → find (has_key key) rs ≡ Some r → place < r.place
found-later key [] r place later found = absurd cc
found-later key (x ∷ rs) r place later found = elim (has_key key x) as (λ b. cond b (Some x) (find (has_key key) rs) ≡ Some r → place < r.place) [
  | true ↦ λ here. subst (λ y. place < y.place) (same_Some x r here) (All-head (λ p. place < p) x.place (map (λ r. r.place) rs) later)
  | false ↦ λ rest. found-later key rs r place (All-tail (λ p. place < p) x.place (map (λ r. r.place) rs) later) rest
] found

-- where bytes came at the place of the arrival that has a key, they came by that arrival
same-arrival : (key raw : List ℕ) (rs : List Remembered) (r : Remembered) → AllPairs (λ p q. p < q) (map (λ r. r.place) rs) → find (has_key key) rs ≡ Some r → list_any (brought_before r.place raw) rs ≡ true
    → list_any (λ x. has_key key x && brought_before r.place raw x) rs ≡ true
same-arrival key raw [] r rise found came = absurd cc
same-arrival key raw (x ∷ rs) r rise found came =
    let later : All (λ p. x.place < p) (map (λ r. r.place) rs) = λ k d inside. rise 0 (suc k) d (omega arith) (omega arith) in
    let rest : AllPairs (λ p q. p < q) (map (λ r. r.place) rs) = λ i j d before inside. rise (suc i) (suc j) d (omega arith) (omega arith) in
    elim (has_key key x) as (λ b. cond b (Some x) (find (has_key key) rs) ≡ Some r → ((b && brought_before r.place raw x) || list_any (λ x. has_key key x && brought_before r.place raw x) rs) ≡ true) [
      | true ↦ λ here. first later (same_Some x r here) (brought_before r.place raw x) refl
      | false ↦ λ after.
          let above = found-later key rs r x.place later after in
          let differs : (x.place == r.place) ≡ false = grind (arith, nat_tests) in
          same-arrival key raw rs r rest after (rw differs at came)
    ] found
  where
    first : All (λ p. x.place < p) (map (λ r. r.place) rs) → x ≡ r → (b : Bool) → brought_before r.place raw x ≡ b → (b || list_any (λ x. has_key key x && brought_before r.place raw x) rs) ≡ true
    first later same true is = refl
    first later same false is =
        let none : list_any (brought_before r.place raw) rs ≡ false = subst (λ y. list_any (brought_before y.place raw) rs ≡ false) same (none-later rs x.place raw later) in
        let here : list_any (brought_before r.place raw) rs ≡ true = rw is at came in absurd cc

-- where a key is remembered, the arrival that a repeat repeats is
remembered-first : (h : History) → IsGoodOpening h.opening → (key raw : List ℕ) (place : ℕ) → known_before h.opening key ≡ Some place → list_any (brought_before place raw) h.opening.remembered ≡ true
    → list_any (λ r. has_key key r && brought_before place raw r) h.opening.remembered ≡ true
remembered-first h good key raw place is came = by (find (has_key key) h.opening.remembered) refl is
  where
    by : (o : Option Remembered) → find (has_key key) h.opening.remembered ≡ o → option_map (λ r. r.place) o ≡ Some place → list_any (λ r. has_key key r && brought_before place raw r) h.opening.remembered ≡ true
    by None found e = absurd cc
    by (Some r) found e =
        let same : r.place ≡ place = same_Some r.place place e in
        subst (λ p. list_any (λ x. has_key key x && brought_before p raw x) h.opening.remembered ≡ true) same
        (same-arrival key raw h.opening.remembered r (AllPairs-from_increasing (map (λ r. r.place) h.opening.remembered) good.places) found
        (subst (λ p. list_any (brought_before p raw) h.opening.remembered ≡ true) (sym same) came))

-- an arrival told Repeat repeats one before it, with its key and its bytes, that was told Accepted or Filtered
pub repeat-is : (h : History) → IsGoodOpening h.opening → IsLegal h → (place conn channel first : ℕ) (raw : List ℕ) → entry_at h place ≡ Some (Arrival conn channel raw (told.Repeat first))
    → (first < place) × (is_first h channel raw first ≡ true)
repeat-is h good legal place conn channel first raw got =
    let may = legal.follows place (Arrival conn channel raw (told.Repeat first)) got in
    let seen = repeat-found (before h place) channel raw first (arrival-told (before h place) conn channel raw (told.Repeat first) may.replied) in
    let held = (entry-held h place (Arrival conn channel raw (told.Repeat first)) got).0 in
    let past : h.opening.places ≤ place = grind (arith, nat_tests) in
    let inside = known-inside (before h place) (key_of channel raw) first good seen.0 in
    let few = length-taken h.entries (place - h.opening.places) in
    (omega arith, by (known_before h.opening (key_of channel raw)) refl seen.0 seen.1)
  where
    -- an entry that is held
    booked : known_before h.opening (key_of channel raw) ≡ None → (k : ℕ) → first ≡ h.opening.places + k → position (keeps (key_of channel raw)) (take (place - h.opening.places) h.entries) ≡ Some k
        → brings_at (before h place) raw first ≡ true → is_first h channel raw first ≡ true
    booked none k at found came =
        let nothing : list_any (brought_before first raw) h.opening.remembered ≡ false = none-before h.opening.remembered h.opening.places first raw good.places_within (omega arith) in
        let there : entry_at h first ≡ slice_get h.entries k = rw at (entry-since h k) in
        let taken : entry_at (before h place) first ≡ slice_get (take (place - h.opening.places) h.entries) k = rw at (entry-since (before h place) k) in
        let brought : option_map_or (brings raw) (slice_get (take (place - h.opening.places) h.entries) k) false ≡ true = rw (nothing, taken) at came in
        rw there (or-right (list_any (λ r. has_key (key_of channel raw) r && brought_before first raw r) h.opening.remembered)
        (option_map_or (λ e. keeps (key_of channel raw) e && brings raw e) (slice_get h.entries k) false) (one k found (slice_get (take (place - h.opening.places) h.entries) k) refl brought))
      where
        or-right : (a b : Bool) → b ≡ true → (a || b) ≡ true
        or-right true b is = refl
        or-right false b is = is

        one : (k : ℕ) → position (keeps (key_of channel raw)) (take (place - h.opening.places) h.entries) ≡ Some k → (o : Option Entry) → slice_get (take (place - h.opening.places) h.entries) k ≡ o
            → option_map_or (brings raw) o false ≡ true → option_map_or (λ e. keeps (key_of channel raw) e && brings raw e) (slice_get h.entries k) false ≡ true
        one k found None is brought = absurd cc
        one k found (Some e) is brought =
            let kept : keeps (key_of channel raw) e ≡ true =
            subst (λ x. keeps (key_of channel raw) x ≡ true) (get_or_from_slice_get (take (place - h.opening.places) h.entries) k e e is) (position-keeps (key_of channel raw) (take (place - h.opening.places) h.entries) k e found) in
            rw (get-taken h.entries (place - h.opening.places) k e is, kept) brought

    -- a remembered arrival
    folded : known_before h.opening (key_of channel raw) ≡ Some first → brings_at (before h place) raw first ≡ true → is_first h channel raw first ≡ true
    folded is came =
        let below = remembered-place h good (key_of channel raw) first is in
        let gone : nat_lt first h.opening.places ≡ true = grind (arith, nat_tests) in
        let brought : list_any (brought_before first raw) h.opening.remembered ≡ true = or-left (list_any (brought_before first raw) h.opening.remembered) (rw gone at came) in
        rw (remembered-first h good (key_of channel raw) raw first is brought) refl
      where
        or-left : (a : Bool) → (a || false) ≡ true → a ≡ true
        or-left true is = refl
        or-left false is = is

    by : (o : Option ℕ) → known_before h.opening (key_of channel raw) ≡ o → known (before h place) (key_of channel raw) ≡ Some first → brings_at (before h place) raw first ≡ true → is_first h channel raw first ≡ true
    by (Some p) is seen came =
        let same : p ≡ first = same_Some p first (sym (known-remembered (before h place) (key_of channel raw) p is) ∙ seen) in
        folded (is ∙ ap (λ q. Some q) same) came
    by None none seen came = let at = known-since (before h place) (key_of channel raw) first none seen in booked none at.0 at.1 at.2 came
