-- The arrivals that a history keeps, and the messages among them.
use Rattle.std.proofs.Common.{◌≡◌, ◌≢◌, ℕ, ◌+◌, ◌-◌, ◌<◌, ◌≤◌, inl, inr, Bool, true, false, cond, ◌==◌, List, [], ◌∷◌, ◌++◌, length, map, take, Option, None, Some, refl, sym, ◌∙◌, ap, subst, arith, suc}
use Rattle.std.specs.Prelude.{filter, find, slice_get, option_to_list, option_and_then}
use Rattle.std.specs.List.{AllByRecursion, cons_option, filter_map, range_with_len}
use Rattle.std.specs.Option.{option_map, option_map_or, option_or}
use Rattle.std.proofs.lemmas.Bool.Decides.{eqb_tells, nat_tests}
use Rattle.std.proofs.lemmas.List.{append_assoc}
use Rattle.std.proofs.lemmas.List.Elements.{recursion_from_All}
use Rattle.std.proofs.lemmas.List.Folds.{find-append}
use Rattle.plan_text.specs.Entries.{PlanEntry}
use Rattle.hl7_head.specs.declared.ack.Cause.TheVariants.{IdReused}
use Rattle.judge_core.specs.declared.judged.Verdict.{Verdict}
use Rattle.judge_core.specs.declared.judged.Verdict.TheVariants as verdict
use Rattle.judge_core.specs.Judging.{verdict as decided, is_bookable, key_of}
use Rattle.event_log.specs.declared.entry.Entry.{Entry}
use Rattle.event_log.specs.declared.entry.Entry.TheVariants.{Arrival, Take, Settle, Cancel, Deploy}
use Rattle.event_log.specs.declared.entry.Told.{Told}
use Rattle.event_log.specs.declared.entry.Told.TheVariants as told
use Rattle.event_log.specs.Answers.{arrival_answer, brings_at, known, told_again, told_by}
use Rattle.event_log.specs.Folding.{known_arrivals, recalled, recalled_from}
use Rattle.event_log.specs.History.{Accepted, History, Remembered, accepted_by, accepted_from, begun, entry_at, followed_by, is_numbered, message_at, message_count, accepted_of, number_told, plan_after, plan_in_force, remembered_as}
use Rattle.event_log.specs.inner.History.{number_of}
use Rattle.event_log.specs.Legal.{IsLegal, MayFollow}
use Rattle.event_log.specs.inner.Legal.{IsSound}
use Rattle.event_log.proofs.Events.{arrival-told}
use Rattle.event_log.proofs.Following.{entry-since, follows-since, plan-followed_by, take-below, take-whole}
use Rattle.event_log.proofs.OneMore.{count-followed_by, lt-tells}

-- ---- entries one by one

-- what is remembered of entries, of which the first stands at a place
abbrev pub recalled_all : History → ℕ → List Entry → List Remembered
recalled_all h p [] = []
recalled_all h p (e ∷ es) = cons_option (recalled_from h p e) (recalled_all h (p + 1) es)

recalled-range : (h : History) (a : ℕ) (es : List Entry) (f : ℕ → Option Remembered) → ((i : ℕ) (e : Entry) → slice_get es i ≡ Some e → f (a + i) ≡ recalled_from h (a + i) e)
    → filter_map f (range_with_len a (length es)) ≡ recalled_all h a es
recalled-range h a [] f same = refl
recalled-range h a (e ∷ es) f same =
    let own : a + 0 ≡ a = omega arith in
    let here : f a ≡ recalled_from h a e = subst (λ x. f x ≡ recalled_from h x e) own (same 0 e refl) in
    let rest = recalled-range h (a + 1) es f (λ i x got. let next : a + suc i ≡ a + 1 + i = omega arith in subst (λ y. f y ≡ recalled_from h y x) next (same (suc i) x got)) in
    λ i. cons_option (here i) (rest i)

-- a remembered arrival as it is remembered from now on
abbrev pub renewed : History → Remembered → Remembered
renewed h r = recalled h r.place r.channel r.raw r.told

pub arrivals-are : (h : History) → known_arrivals h ≡ map (renewed h) h.opening.remembered ++ recalled_all h h.opening.places h.entries
arrivals-are h =
    ap (λ rs. map (renewed h) h.opening.remembered ++ rs)
    (recalled-range h h.opening.places h.entries (λ place. option_and_then (recalled_from h place) (entry_at h place))
    (λ i e got. ap (option_and_then (recalled_from h (h.opening.places + i))) (entry-since h i ∙ got)))

-- ---- searches

pub find-map : (p : Remembered → Bool) (f : Remembered → Remembered) → ((r : Remembered) → p (f r) ≡ p r) → (rs : List Remembered) → find p (map f rs) ≡ option_map f (find p rs)
find-map p f same [] = refl
find-map p f same (r ∷ rs) = ap (λ b. cond b (Some (f r)) (find p (map f rs))) (same r) ∙ by (p r) (find-map p f same rs)
  where
    by : (b : Bool) → find p (map f rs) ≡ option_map f (find p rs) → cond b (Some (f r)) (find p (map f rs)) ≡ option_map f (cond b (Some r) (find p rs))
    by true rest = refl
    by false rest = rest

-- what is looked for isn't filtered out
pub find-kept : (p keep : Remembered → Bool) → ((r : Remembered) → p r ≡ true → keep r ≡ true) → (rs : List Remembered) → find p (filter keep rs) ≡ find p rs
find-kept p keep kept [] = refl
find-kept p keep kept (r ∷ rs) = by (keep r) (p r) refl (kept r) (find-kept p keep kept rs)
  where
    by : (b c : Bool) → p r ≡ c → (c ≡ true → b ≡ true) → find p (filter keep rs) ≡ find p rs → find p (cond b (r ∷ filter keep rs) (filter keep rs)) ≡ cond (p r) (Some r) (find p rs)
    by true c is kept rest = ap (λ o. cond (p r) (Some r) o) rest
    by false true is kept rest = let no = kept refl in absurd cc
    by false false is kept rest = rest ∙ sym (ap (λ b. cond b (Some r) (find p rs)) is)

-- or all of it is
pub find-dropped : (p keep : Remembered → Bool) → ((r : Remembered) → p r ≡ true → keep r ≡ false) → (rs : List Remembered) → find p (filter keep rs) ≡ None
find-dropped p keep dropped [] = refl
find-dropped p keep dropped (r ∷ rs) = by (keep r) (p r) refl (dropped r) (find-dropped p keep dropped rs)
  where
    by : (b c : Bool) → p r ≡ c → (c ≡ true → b ≡ false) → find p (filter keep rs) ≡ None → find p (cond b (r ∷ filter keep rs) (filter keep rs)) ≡ None
    by false c is dropped rest = rest
    by true true is dropped rest = let no = dropped refl in absurd cc
    by true false is dropped rest = ap (λ b. cond b (Some r) (find p (filter keep rs))) is ∙ rest

-- ---- numbers

-- the number that an entry's sender was told
abbrev number_in : Entry → Option ℕ
number_in (Arrival conn channel raw reply) = number_told reply
number_in (Take ticket now) = None
number_in (Settle outcome ticket now state) = None
number_in (Cancel number among mask) = None
number_in (Deploy plan) = None

-- each accepted arrival has the next number, where so many messages came before
abbrev pub Numbered : ℕ → PlanEntry → List Entry → Type 0
Numbered count plan [] = Unit {0}
Numbered count plan (e ∷ es) = ((j : ℕ) → number_in e ≡ Some j → j ≡ count) × Numbered (count + length (option_to_list (accepted_by plan e))) (plan_after plan e) es

answered-number : (h : History) (channel : ℕ) (raw : List ℕ) (i : ℕ) → arrival_answer h channel raw ≡ Some (told.Accepted i) → i ≡ message_count h
unfolding arrival_answer
answered-number h channel raw i is = by (is_bookable raw) (known h (key_of channel raw)) (decided (plan_in_force h) channel raw) is
  where
    again : (b : Bool) (place : ℕ) → ◌≡◌ {A = Option Told} (Some (cond b (told.Repeat place) (told.Refused IdReused))) (Some (told.Accepted i)) → i ≡ message_count h
    again true place e = absurd cc
    again false place e = absurd cc

    first : (v : Verdict) → told_by (message_count h) v ≡ Some (told.Accepted i) → i ≡ message_count h
    first verdict.Unreadable e = absurd cc
    first verdict.Stray e = absurd cc
    first (verdict.Refuse cause) e = absurd cc
    first verdict.Filtered e = absurd cc
    first (verdict.Accept deliveries) e = let same : message_count h ≡ i = cc in sym same

    by : (b : Bool) (o : Option ℕ) (v : Verdict) → cond b (option_map_or (λ place. Some (told_again h raw place)) o (told_by (message_count h) v)) None ≡ Some (told.Accepted i) → i ≡ message_count h
    by false o v e = absurd cc
    by true None v e = first v e
    by true (Some place) v e = again (brings_at h raw place) place e

follows-number : (h : History) (e : Entry) → MayFollow h e → (j : ℕ) → number_in e ≡ Some j → j ≡ message_count h
follows-number h (Arrival conn channel raw (told.Accepted i)) may j is = let same : i ≡ j = cc in sym same ∙ answered-number h channel raw i (arrival-told h conn channel raw (told.Accepted i) may.replied)
follows-number h (Arrival conn channel raw told.Filtered) may j is = absurd cc
follows-number h (Arrival conn channel raw (told.Refused cause)) may j is = absurd cc
follows-number h (Arrival conn channel raw (told.Repeat place)) may j is = absurd cc
follows-number h (Take ticket now) may j is = absurd cc
follows-number h (Settle outcome ticket now state) may j is = absurd cc
follows-number h (Cancel number among mask) may j is = absurd cc
follows-number h (Deploy plan) may j is = absurd cc

pub get-after : {A : Type 0} (xs ys : List A) (x : A) → slice_get (xs ++ x ∷ ys) (length xs) ≡ Some x
get-after [] ys x = refl
get-after (z ∷ xs) ys x = get-after xs ys x

abbrev pub with_more : History → List Entry → History
with_more h es = record { opening = h.opening; entries = h.entries ++ es }

numbered-on : (h : History) (es : List Entry) → IsLegal (with_more h es) → Numbered (message_count h) (plan_in_force h) es
numbered-on h [] legal = tt
numbered-on h (e ∷ es) legal =
    let front : take (length h.entries) (h.entries ++ (e ∷ es)) ≡ h.entries = take-below h.entries (e ∷ es) (length h.entries) (omega arith) ∙ take-whole h.entries in
    let may : MayFollow h e = subst (λ xs. MayFollow (record { opening = h.opening; entries = xs }) e) front (follows-since (with_more h (e ∷ es)) legal (length h.entries) e (get-after h.entries es e)) in
    let joined : h.entries ++ e ∷ [] ++ es ≡ h.entries ++ (e ∷ es) = append_assoc h.entries (e ∷ []) es in
    let rest = numbered-on (followed_by h e) es (subst (λ xs. IsLegal (record { opening = h.opening; entries = xs })) (sym joined) legal) in
    (follows-number h e may, subst (λ c. Numbered c (plan_after (plan_in_force h) e) es) (count-followed_by h e) (subst (λ p. Numbered (message_count (followed_by h e)) p es) (plan-followed_by h e) rest))

-- so it is with the entries of a legal history
pub numbered-legal : (h : History) → IsLegal h → Numbered h.opening.messages h.opening.plan h.entries
numbered-legal h legal =
    let none : h.opening.messages + 0 ≡ h.opening.messages = omega arith in
    subst (λ c. Numbered c h.opening.plan h.entries) none (numbered-on (begun h.opening) h.entries legal)

-- ---- messages among arrivals

-- what came
abbrev pub what_came : Remembered → ℕ × List ℕ
what_came r = (r.channel, r.raw)

abbrev pub what_is : Accepted → ℕ × List ℕ
what_is m = (m.channel, m.raw)

-- the test for the arrival of message n
abbrev pub is_of : ℕ → Remembered → Bool
is_of n r = is_numbered n r.told

pub less-zero : (count : ℕ) → count + 0 ≡ count
less-zero count = omega arith

-- the arrival of message n among entries from a count on
find-numbered : (h : History) (n count p : ℕ) (plan : PlanEntry) (es : List Entry) → Numbered count plan es → count ≤ n
    → option_map what_came (find (is_of n) (recalled_all h p es)) ≡ option_map what_is (slice_get (accepted_from plan es) (n - count))
find-numbered h n count p plan [] numbered from = refl
find-numbered h n count p plan (Arrival conn channel raw (told.Accepted j) ∷ es) numbered from =
    let own : j ≡ count = numbered.0 j refl in
    elim (eqb_tells j n) [
      | inl w ↦ let same = w.1 in let none : n - count ≡ 0 = omega arith in rw (w.0, none) refl
      | inr w ↦
          let apart = w.1 in
          let past : count + 1 ≤ n = let other : count ≢ n = λ e. apart (own ∙ e) in omega arith in
          let next : n - count ≡ suc (n - (count + 1)) = omega arith in
          rw (w.0, next) (find-numbered h n (count + 1) (p + 1) plan es numbered.1 past)
    ]
find-numbered h n count p plan (Arrival conn channel raw told.Filtered ∷ es) numbered from = find-numbered h n count (p + 1) plan es (subst (λ c. Numbered c plan es) (less-zero count) numbered.1) from
find-numbered h n count p plan (Arrival conn channel raw (told.Refused cause) ∷ es) numbered from = find-numbered h n count (p + 1) plan es (subst (λ c. Numbered c plan es) (less-zero count) numbered.1) from
find-numbered h n count p plan (Arrival conn channel raw (told.Repeat place) ∷ es) numbered from = find-numbered h n count (p + 1) plan es (subst (λ c. Numbered c plan es) (less-zero count) numbered.1) from
find-numbered h n count p plan (Take ticket now ∷ es) numbered from = find-numbered h n count (p + 1) plan es (subst (λ c. Numbered c plan es) (less-zero count) numbered.1) from
find-numbered h n count p plan (Settle outcome ticket now state ∷ es) numbered from = find-numbered h n count (p + 1) plan es (subst (λ c. Numbered c plan es) (less-zero count) numbered.1) from
find-numbered h n count p plan (Cancel number among mask ∷ es) numbered from = find-numbered h n count (p + 1) plan es (subst (λ c. Numbered c plan es) (less-zero count) numbered.1) from
find-numbered h n count p plan (Deploy next ∷ es) numbered from = find-numbered h n count (p + 1) next es (subst (λ c. Numbered c next es) (less-zero count) numbered.1) from

-- no message of an earlier number is among them
find-below : (h : History) (n count p : ℕ) (plan : PlanEntry) (es : List Entry) → Numbered count plan es → n < count → find (is_of n) (recalled_all h p es) ≡ None
find-below h n count p plan [] numbered below = refl
find-below h n count p plan (Arrival conn channel raw (told.Accepted j) ∷ es) numbered below =
    let own : j ≡ count = numbered.0 j refl in
    let apart : (j == n) ≡ false = grind (arith, nat_tests) in
    rw apart (find-below h n (count + 1) (p + 1) plan es numbered.1 (omega arith))
find-below h n count p plan (Arrival conn channel raw told.Filtered ∷ es) numbered below = find-below h n count (p + 1) plan es (subst (λ c. Numbered c plan es) (less-zero count) numbered.1) below
find-below h n count p plan (Arrival conn channel raw (told.Refused cause) ∷ es) numbered below = find-below h n count (p + 1) plan es (subst (λ c. Numbered c plan es) (less-zero count) numbered.1) below
find-below h n count p plan (Arrival conn channel raw (told.Repeat place) ∷ es) numbered below = find-below h n count (p + 1) plan es (subst (λ c. Numbered c plan es) (less-zero count) numbered.1) below
find-below h n count p plan (Take ticket now ∷ es) numbered below = find-below h n count (p + 1) plan es (subst (λ c. Numbered c plan es) (less-zero count) numbered.1) below
find-below h n count p plan (Settle outcome ticket now state ∷ es) numbered below = find-below h n count (p + 1) plan es (subst (λ c. Numbered c plan es) (less-zero count) numbered.1) below
find-below h n count p plan (Cancel number among mask ∷ es) numbered below = find-below h n count (p + 1) plan es (subst (λ c. Numbered c plan es) (less-zero count) numbered.1) below
find-below h n count p plan (Deploy next ∷ es) numbered below = find-below h n count (p + 1) next es (subst (λ c. Numbered c next es) (less-zero count) numbered.1) below

-- nothing remembered has the number of a message that came since
remembered-past : (n messages : ℕ) (rs : List Remembered) → messages ≤ n → AllByRecursion (λ j. j < messages) (filter_map number_of rs) → find (is_of n) rs ≡ None
remembered-past n messages [] past within = refl
remembered-past n messages (r ∷ rs) past within = by r.told within (λ rest. remembered-past n messages rs past rest)
  where
    by : (t : Told) → AllByRecursion (λ j. j < messages) (cons_option (number_told t) (filter_map number_of rs)) → (AllByRecursion (λ j. j < messages) (filter_map number_of rs) → find (is_of n) rs ≡ None)
        → cond (is_numbered n t) (Some r) (find (is_of n) rs) ≡ None
    by (told.Accepted j) within rest = let low = within.0 in let apart : (j == n) ≡ false = grind (arith, nat_tests) in rw apart (rest within.1)
    by told.Filtered within rest = rest within
    by (told.Refused cause) within rest = rest within
    by (told.Repeat place) within rest = rest within

-- the arrival of message n is kept where there is the message, with its channel and its bytes
pub recalled-message : (h : History) → IsSound h → (n : ℕ) → option_map what_came (find (is_of n) (known_arrivals h)) ≡ option_map what_is (message_at h n)
recalled-message h sound n =
    ap (option_map what_came)
    (ap (find (is_of n)) (arrivals-are h)
    ∙ (find-append (is_of n) (map (renewed h) h.opening.remembered) (recalled_all h h.opening.places h.entries)
    ∙ ap (λ o. option_or o (find (is_of n) (recalled_all h h.opening.places h.entries))) (find-map (is_of n) (renewed h) (λ r. refl) h.opening.remembered)))
    ∙ elim (lt-tells n h.opening.messages) [
      | inl w ↦ rw (w.0, find-below h n h.opening.messages h.opening.places h.opening.plan h.entries (numbered-legal h sound.legal) w.1) (by (remembered_as h.opening n))
      | inr w ↦
          rw (w.0, remembered-past n h.opening.messages h.opening.remembered w.1 (recursion_from_All (λ j. j < h.opening.messages) (filter_map number_of h.opening.remembered) sound.opening.numbers_within))
          (find-numbered h n h.opening.messages h.opening.places h.opening.plan h.entries (numbered-legal h sound.legal) w.1)
    ]
  where
    by : (o : Option Remembered) → option_map what_came (option_or (option_map (renewed h) o) None) ≡ option_map what_is (option_map accepted_of o)
    by None = refl
    by (Some r) = refl
