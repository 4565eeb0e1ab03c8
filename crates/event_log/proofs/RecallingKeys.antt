-- The keys and the bytes of the arrivals that a history keeps.
use Rattle.std.proofs.Common.{◌≡◌, ℕ, ◌+◌, ◌-◌, ◌<◌, ◌≤◌, inl, inr, Bool, true, false, cond, not, ◌==◌, ◌&&◌, ◌||◌, nat_lt, List, [], ◌∷◌, ◌++◌, length, map, Option, None, Some, refl, sym, ◌∙◌, ap, subst, arith, suc}
use Rattle.std.specs.Prelude.{filter, find, slice_get, slice_index}
use Rattle.std.specs.List.{AllByRecursion, cons_option, list_any, position, prefix_len}
use Rattle.std.specs.List.Sorted.{IsStrictlyIncreasing}
use Rattle.std.specs.Option.{option_map, option_map_or, option_or}
use Rattle.std.specs.Str.{bytes_eq}
use Rattle.std.proofs.lemmas.Bool.Decides.{nat_tests}
use Rattle.std.proofs.lemmas.List.Elements.{recursion_from_All}
use Rattle.std.proofs.lemmas.List.Folds.{find-append}
use Rattle.judge_core.specs.Judging.{key_of}
use Rattle.event_log.specs.declared.entry.Entry.{Entry}
use Rattle.event_log.specs.declared.entry.Entry.TheVariants.{Arrival, Take, Settle, Cancel, Deploy}
use Rattle.event_log.specs.declared.entry.Told.{Told}
use Rattle.event_log.specs.Answers.{brings, brings_at, brought_before, has_key, is_kept, keeps, known}
use Rattle.event_log.specs.Folding.{known_arrivals, recalled, recalled_from}
use Rattle.event_log.specs.History.{History, Remembered, entry_at}
use Rattle.event_log.specs.inner.Legal.{IsSound}
use Rattle.event_log.proofs.Following.{entry-since}
use Rattle.event_log.proofs.OneMore.{lt-tells}
use Rattle.event_log.proofs.Recalling.{arrivals-are, find-map, recalled_all, renewed}
use Rattle.event_log.proofs.RunningAlike.{found-within}
use Rattle.event_log.proofs.StayingAlike.{brought-past}

-- ---- places of keys

suc-lt : (q n : ℕ) → nat_lt (1 + q) (suc n) ≡ nat_lt q n
suc-lt q n = elim (lt-tells q n) [
  | inl w ↦ let low = w.1 in let yes : nat_lt (1 + q) (suc n) ≡ true = grind (arith, nat_tests) in yes ∙ sym w.0
  | inr w ↦ let high = w.1 in let no : nat_lt (1 + q) (suc n) ≡ false = grind (arith, nat_tests) in no ∙ sym w.0
]

pub position-cons : (p : Entry → Bool) (e : Entry) (es : List Entry) → position p (e ∷ es) ≡ cond (p e) (Some 0) (option_map (λ k. suc k) (position p es))
position-cons p e es = by (p e) (prefix_len (λ x. not (p x)) es)
  where
    by : (b : Bool) (q : ℕ) → cond (nat_lt (cond (not b) (1 + q) 0) (suc (length es))) (Some (cond (not b) (1 + q) 0)) None ≡ cond b (Some 0) (option_map (λ k. suc k) (cond (nat_lt q (length es)) (Some q) None))
    by true q = let yes : nat_lt 0 (suc (length es)) ≡ true = grind (arith, nat_tests) in rw yes refl
    by false q = let one : 1 + q ≡ suc q = omega arith in ap (λ b. cond b (Some (1 + q)) None) (suc-lt q (length es)) ∙ at (nat_lt q (length es)) one
      where
        at : (b : Bool) → 1 + q ≡ suc q → cond b (Some (1 + q)) None ≡ option_map (λ k. suc k) (cond b (Some q) None)
        at true one = ap (λ k. Some k) one
        at false one = refl

pub further : (a : ℕ) (o : Option ℕ) → option_map (λ k. a + 1 + k) o ≡ option_map (λ k. a + k) (option_map (λ k. suc k) o)
further a None = refl
further a (Some k) = let same : a + 1 + k ≡ a + suc k = omega arith in ap (λ x. Some x) same

-- the arrival with a key stands where the first entry does that keeps the key
find-key : (h : History) (key : List ℕ) (a : ℕ) (es : List Entry) → option_map (λ r. r.place) (find (has_key key) (recalled_all h a es)) ≡ option_map (λ k. a + k) (position (keeps key) es)
find-key h key a [] = refl
find-key h key a (Arrival conn channel raw reply ∷ es) =
    by (is_kept reply) (bytes_eq key (key_of channel raw)) refl (find-key h key (a + 1) es ∙ further a (position (keeps key) es))
    ∙ ap (option_map (λ k. a + k)) (sym (position-cons (keeps key) (Arrival conn channel raw reply) es))
  where
    by : (b c : Bool) → bytes_eq key (key_of channel raw) ≡ c
        → option_map (λ r. r.place) (find (has_key key) (recalled_all h (a + 1) es)) ≡ option_map (λ k. a + k) (option_map (λ k. suc k) (position (keeps key) es))
        → option_map (λ r. r.place) (find (has_key key) (cons_option (cond b (Some (recalled h a channel raw reply)) None) (recalled_all h (a + 1) es)))
        ≡ option_map (λ k. a + k) (cond (b && bytes_eq key (key_of channel raw)) (Some 0) (option_map (λ k. suc k) (position (keeps key) es)))
    by false c is rest = rest
    by true true is rest = let own : a ≡ a + 0 = omega arith in rw is (ap (λ x. Some x) own)
    by true false is rest = rw is rest
find-key h key a (Take ticket now ∷ es) = find-key h key (a + 1) es ∙ (further a (position (keeps key) es) ∙ ap (option_map (λ k. a + k)) (sym (position-cons (keeps key) (Take ticket now) es)))
find-key h key a (Settle outcome ticket now state ∷ es) = find-key h key (a + 1) es ∙ (further a (position (keeps key) es) ∙ ap (option_map (λ k. a + k)) (sym (position-cons (keeps key) (Settle outcome ticket now state) es)))
find-key h key a (Cancel number among mask ∷ es) = find-key h key (a + 1) es ∙ (further a (position (keeps key) es) ∙ ap (option_map (λ k. a + k)) (sym (position-cons (keeps key) (Cancel number among mask) es)))
find-key h key a (Deploy plan ∷ es) = find-key h key (a + 1) es ∙ (further a (position (keeps key) es) ∙ ap (option_map (λ k. a + k)) (sym (position-cons (keeps key) (Deploy plan) es)))

-- a key is known at the place of the arrival that has it
pub known-arrivals : (h : History) (key : List ℕ) → known h key ≡ option_map (λ r. r.place) (find (has_key key) (known_arrivals h))
known-arrivals h key =
    by (find (has_key key) h.opening.remembered) (find-key h key h.opening.places h.entries)
    ∙ ap (option_map (λ r. r.place))
    (sym (ap (find (has_key key)) (arrivals-are h)
    ∙ (find-append (has_key key) (map (renewed h) h.opening.remembered) (recalled_all h h.opening.places h.entries)
    ∙ ap (λ o. option_or o (find (has_key key) (recalled_all h h.opening.places h.entries))) (find-map (has_key key) (renewed h) (λ r. refl) h.opening.remembered))))
  where
    by : (o : Option Remembered) → option_map (λ r. r.place) (find (has_key key) (recalled_all h h.opening.places h.entries)) ≡ option_map (λ k. h.opening.places + k) (position (keeps key) h.entries)
        → option_map_or (λ place. Some place) (option_map (λ r. r.place) o) (option_map (λ k. h.opening.places + k) (position (keeps key) h.entries))
        ≡ option_map (λ r. r.place) (option_or (option_map (renewed h) o) (find (has_key key) (recalled_all h h.opening.places h.entries)))
    by None same = sym same
    by (Some r) same = refl

-- an arrival is found among those that remain, if none that is dropped is looked for
pub find-remaining : (p dropped : Remembered → Bool) (rs : List Remembered) → list_any (λ r. p r && dropped r) rs ≡ false → find p (filter (λ r. not (dropped r)) rs) ≡ find p rs
find-remaining p dropped [] none = refl
find-remaining p dropped (r ∷ rs) none = by (p r) (dropped r) refl none (λ e. find-remaining p dropped rs e)
  where
    by : (b c : Bool) → p r ≡ b → ((b && c) || list_any (λ r. p r && dropped r) rs) ≡ false → (list_any (λ r. p r && dropped r) rs ≡ false → find p (filter (λ r. not (dropped r)) rs) ≡ find p rs)
        → find p (cond (not c) (r ∷ filter (λ r. not (dropped r)) rs) (filter (λ r. not (dropped r)) rs)) ≡ cond (p r) (Some r) (find p rs)
    by true true is none rest = absurd cc
    by true false is none rest = rw is refl
    by false true is none rest = rw is (rest none)
    by false false is none rest = rw is (rest none)

-- ---- rising places

-- the places of arrivals rise, from a lowest on
abbrev pub Rising : ℕ → List Remembered → Type 0
Rising low [] = Unit {0}
Rising low (r ∷ rs) = (low ≤ r.place) × Rising (r.place + 1) rs

rising-lower : (low lower : ℕ) (rs : List Remembered) → lower ≤ low → Rising low rs → Rising lower rs
rising-lower low lower [] less rise = tt
rising-lower low lower (r ∷ rs) less rise = let first = rise.0 in (omega arith, rise.1)

pub rising-filter : (keep : Remembered → Bool) (low : ℕ) (rs : List Remembered) → Rising low rs → Rising low (filter keep rs)
rising-filter keep low [] rise = tt
rising-filter keep low (r ∷ rs) rise = by (keep r) (rising-filter keep (r.place + 1) rs rise.1)
  where
    by : (b : Bool) → Rising (r.place + 1) (filter keep rs) → Rising low (cond b (r ∷ filter keep rs) (filter keep rs))
    by true rest = (rise.0, rest)
    by false rest = let first = rise.0 in rising-lower (r.place + 1) low (filter keep rs) (omega arith) rest

rising-renewed : (h : History) (low : ℕ) (rs : List Remembered) → Rising low rs → Rising low (map (renewed h) rs)
rising-renewed h low [] rise = tt
rising-renewed h low (r ∷ rs) rise = (rise.0, rising-renewed h (r.place + 1) rs rise.1)

rising-append : (low mid : ℕ) (xs ys : List Remembered) → low ≤ mid → Rising low xs → AllByRecursion (λ r. r.place < mid) xs → Rising mid ys → Rising low (xs ++ ys)
rising-append low mid [] ys less rise within more = rising-lower mid low ys less more
rising-append low mid (x ∷ xs) ys less rise within more = let first = within.0 in (rise.0, rising-append (x.place + 1) mid xs ys (omega arith) rise.1 within.1 more)

rising-entries : (h : History) (a : ℕ) (es : List Entry) → Rising a (recalled_all h a es)
rising-entries h a [] = tt
rising-entries h a (Arrival conn channel raw reply ∷ es) = by (is_kept reply) (rising-entries h (a + 1) es)
  where
    by : (b : Bool) → Rising (a + 1) (recalled_all h (a + 1) es) → Rising a (cons_option (cond b (Some (recalled h a channel raw reply)) None) (recalled_all h (a + 1) es))
    by true rest = (omega arith, rest)
    by false rest = rising-lower (a + 1) a (recalled_all h (a + 1) es) (omega arith) rest
rising-entries h a (Take ticket now ∷ es) = rising-lower (a + 1) a (recalled_all h (a + 1) es) (omega arith) (rising-entries h (a + 1) es)
rising-entries h a (Settle outcome ticket now state ∷ es) = rising-lower (a + 1) a (recalled_all h (a + 1) es) (omega arith) (rising-entries h (a + 1) es)
rising-entries h a (Cancel number among mask ∷ es) = rising-lower (a + 1) a (recalled_all h (a + 1) es) (omega arith) (rising-entries h (a + 1) es)
rising-entries h a (Deploy plan ∷ es) = rising-lower (a + 1) a (recalled_all h (a + 1) es) (omega arith) (rising-entries h (a + 1) es)

rising-after : (r : Remembered) (rs : List Remembered) → IsStrictlyIncreasing (map (λ x. x.place) (r ∷ rs)) → Rising (r.place + 1) rs
rising-after r [] rise = tt
rising-after r (s ∷ rs) rise =
    let first : r.place < s.place = rise 0 (omega arith) in (
      omega arith,
      rising-after s rs (λ k inside.
          let next : suc k + 1 ≡ suc (k + 1) = omega arith in
          subst (λ j. slice_index (map (λ x. x.place) (s ∷ rs)) k < slice_index (map (λ x. x.place) (r ∷ (s ∷ rs))) j) next (rise (suc k) (omega arith))),
    )

rising-all : (rs : List Remembered) → IsStrictlyIncreasing (map (λ x. x.place) rs) → Rising 0 rs
rising-all [] rise = tt
rising-all (r ∷ rs) rise = (omega arith, rising-after r rs rise)

within-renewed : (h : History) (mid : ℕ) (rs : List Remembered) → AllByRecursion (λ r. r.place < mid) rs → AllByRecursion (λ r. r.place < mid) (map (renewed h) rs)
within-renewed h mid [] within = tt
within-renewed h mid (r ∷ rs) within = (within.0, within-renewed h mid rs within.1)

-- those that a sound history keeps
pub arrivals-rise : (h : History) → IsSound h → Rising 0 (known_arrivals h)
arrivals-rise h sound =
    subst (Rising 0) (sym (arrivals-are h))
    (rising-append 0 h.opening.places (map (renewed h) h.opening.remembered) (recalled_all h h.opening.places h.entries) (omega arith)
    (rising-renewed h 0 h.opening.remembered (rising-all h.opening.remembered sound.opening.places))
    (within-renewed h h.opening.places h.opening.remembered (recursion_from_All (λ r. r.place < h.opening.places) h.opening.remembered sound.opening.places_within))
    (rising-entries h h.opening.places h.entries))

-- ---- bytes

-- no arrival stands below the lowest place
brought-later : (place : ℕ) (raw : List ℕ) (low : ℕ) (rs : List Remembered) → place < low → Rising low rs → list_any (brought_before place raw) rs ≡ false
brought-later place raw low [] less rise = refl
brought-later place raw low (r ∷ rs) less rise =
    let first = rise.0 in
    let apart : (r.place == place) ≡ false = grind (arith, nat_tests) in
    rw apart (brought-later place raw (r.place + 1) rs (omega arith) rise.1)

pub found-low : (p : Remembered → Bool) (low : ℕ) (rs : List Remembered) (r : Remembered) → Rising low rs → find p rs ≡ Some r → low ≤ r.place
found-low p low [] r rise is = absurd cc
found-low p low (x ∷ rs) r rise is = by (p x) (λ e. found-low p (x.place + 1) rs r rise.1 e) is
  where
    by : (b : Bool) → (find p rs ≡ Some r → x.place + 1 ≤ r.place) → cond b (Some x) (find p rs) ≡ Some r → low ≤ r.place
    by true rest is = let same : x ≡ r = cc in let here = ap (λ y. y.place) same in let first = rise.0 in omega arith
    by false rest is = let more = rest is in let first = rise.0 in omega arith

pub or-none : (b : Bool) → (b || false) ≡ b
or-none true = refl
or-none false = refl

-- the bytes at the place of an arrival are its own
pub found-brought : (p : Remembered → Bool) (raw : List ℕ) (low : ℕ) (rs : List Remembered) (r : Remembered) → Rising low rs → find p rs ≡ Some r → list_any (brought_before r.place raw) rs ≡ bytes_eq raw r.raw
found-brought p raw low [] r rise is = absurd cc
found-brought p raw low (x ∷ rs) r rise is = by (p x) (λ e. found-brought p raw (x.place + 1) rs r rise.1 e) is
  where
    by : (b : Bool) → (find p rs ≡ Some r → list_any (brought_before r.place raw) rs ≡ bytes_eq raw r.raw) → cond b (Some x) (find p rs) ≡ Some r
        → (((x.place == r.place) && bytes_eq raw x.raw) || list_any (brought_before r.place raw) rs) ≡ bytes_eq raw r.raw
    by true rest is =
        let same : x ≡ r = cc in
        let own : (r.place == r.place) ≡ true = grind (arith, nat_tests) in
        let after : Rising (r.place + 1) rs = subst (λ y. Rising (y.place + 1) rs) same rise.1 in
        ap (λ y. ((y.place == r.place) && bytes_eq raw y.raw) || list_any (brought_before r.place raw) rs) same
        ∙ ((λ i. (own i && bytes_eq raw r.raw) || brought-later r.place raw (r.place + 1) rs (omega arith) after i) ∙ or-none (bytes_eq raw r.raw))
    by false rest is =
        let low' = found-low p (x.place + 1) rs r rise.1 is in
        let apart : (x.place == r.place) ≡ false = grind (arith, nat_tests) in
        rw apart (rest is)

-- an arrival among entries: where it stands, and its bytes
record FoundAt (es : List Entry) (a : ℕ) (r : Remembered) : Type 0 where
  index : ℕ
  place : r.place ≡ a + index
  bytes : (raw : List ℕ) → option_map_or (brings raw) (slice_get es index) false ≡ bytes_eq raw r.raw

found-at : (h : History) (p : Remembered → Bool) (a : ℕ) (es : List Entry) (r : Remembered) → find p (recalled_all h a es) ≡ Some r → FoundAt es a r
found-at h p a [] r is = absurd cc
found-at h p a (e ∷ es) r is = by e (λ f. later e (found-at h p (a + 1) es r f)) is
  where
    later : (x : Entry) → FoundAt es (a + 1) r → FoundAt (x ∷ es) a r
    later x w = let there = w.place in record { index = suc w.index; place = omega arith; bytes = w.bytes }

    told : (b : Bool) (conn channel : ℕ) (came : List ℕ) (reply : Told) → (find p (recalled_all h (a + 1) es) ≡ Some r → FoundAt (Arrival conn channel came reply ∷ es) a r)
        → find p (cons_option (cond b (Some (recalled h a channel came reply)) None) (recalled_all h (a + 1) es)) ≡ Some r → FoundAt (Arrival conn channel came reply ∷ es) a r
    told false conn channel came reply rest is = rest is
    told true conn channel came reply rest is =
        elim (p (recalled h a channel came reply)) as (λ b. cond b (Some (recalled h a channel came reply)) (find p (recalled_all h (a + 1) es)) ≡ Some r → FoundAt (Arrival conn channel came reply ∷ es) a r) [
          | true ↦ λ f.
              let same : recalled h a channel came reply ≡ r = cc in
              record { index = 0; place = sym (ap (λ x. x.place) same) ∙ omega arith; bytes = λ raw. ap (λ x. bytes_eq raw x.raw) same }
          | false ↦ rest
        ] is

    by : (x : Entry) → (find p (recalled_all h (a + 1) es) ≡ Some r → FoundAt (x ∷ es) a r) → find p (cons_option (recalled_from h a x) (recalled_all h (a + 1) es)) ≡ Some r → FoundAt (x ∷ es) a r
    by (Arrival conn channel came reply) rest is = told (is_kept reply) conn channel came reply rest is
    by (Take ticket now) rest is = rest is
    by (Settle outcome ticket now state) rest is = rest is
    by (Cancel number among mask) rest is = rest is
    by (Deploy plan) rest is = rest is

-- the bytes at the place of an arrival that a sound history keeps
pub brings-arrival : (h : History) → IsSound h → (key raw : List ℕ) (r : Remembered) → find (has_key key) (known_arrivals h) ≡ Some r → brings_at h raw r.place ≡ bytes_eq raw r.raw
brings-arrival h sound key raw r is =
    by (find (has_key key) h.opening.remembered) refl
    (sym (ap (find (has_key key)) (arrivals-are h)
    ∙ (find-append (has_key key) (map (renewed h) h.opening.remembered) (recalled_all h h.opening.places h.entries)
    ∙ ap (λ o. option_or o (find (has_key key) (recalled_all h h.opening.places h.entries))) (find-map (has_key key) (renewed h) (λ r. refl) h.opening.remembered))) ∙ is)
  where
    within : AllByRecursion (λ r. r.place < h.opening.places) h.opening.remembered
    within = recursion_from_All (λ r. r.place < h.opening.places) h.opening.remembered sound.opening.places_within

    by : (o : Option Remembered) → find (has_key key) h.opening.remembered ≡ o → option_or (option_map (renewed h) o) (find (has_key key) (recalled_all h h.opening.places h.entries)) ≡ Some r
        → brings_at h raw r.place ≡ bytes_eq raw r.raw
    by (Some s) was e =
        let same : renewed h s ≡ r = cc in
        let inside : s.place < h.opening.places = found-within key h.opening.places h.opening.remembered s.place within (ap (option_map (λ x. x.place)) was) in
        let gone : nat_lt s.place h.opening.places ≡ true = grind (arith, nat_tests) in
        subst (λ x. brings_at h raw x.place ≡ bytes_eq raw x.raw) same
        ((λ i. found-brought (has_key key) raw 0 h.opening.remembered s (rising-all h.opening.remembered sound.opening.places) was i
        || option_map_or (brings raw) (cond (gone i) None (slice_get h.entries (s.place - h.opening.places))) false) ∙ or-none (bytes_eq raw s.raw))
    by None was e =
        let w = found-at h (has_key key) h.opening.places h.entries r e in
        let there = w.place in
        (λ i. brought-past r.place h.opening.places raw h.opening.remembered (omega arith) within i || option_map_or (brings raw) (entry_at h (there i)) false)
        ∙ (ap (λ o. option_map_or (brings raw) o false) (entry-since h w.index) ∙ w.bytes raw)
