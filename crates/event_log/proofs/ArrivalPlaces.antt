-- Where a message came, and that a place parts what a pruning forgets from what stays.
use Rattle.std.proofs.Common.{◌≡◌, ℕ, ◌+◌, ◌<◌, Bool, true, false, cond, not, ◌==◌, nat_lt, List, [], ◌∷◌, map, Option, None, Some, refl, sym, ◌∙◌, ap, arith, suc}
use Rattle.std.specs.Prelude.{filter, find, position}
use Rattle.std.specs.List.{AllByRecursion, cons_option}
use Rattle.std.specs.Option.{option_map, option_map_or, option_or}
use Rattle.std.proofs.lemmas.Bool.Decides.{nat_tests}
use Rattle.std.proofs.lemmas.List.Folds.{find-append}
use Rattle.event_log.specs.declared.entry.Entry.{Entry}
use Rattle.event_log.specs.declared.entry.Entry.TheVariants.{Arrival, Take, Settle, Cancel, Deploy}
use Rattle.event_log.specs.declared.entry.Told.{Told}
use Rattle.event_log.specs.declared.entry.Told.TheVariants as told
use Rattle.event_log.specs.Answers.{is_kept}
use Rattle.event_log.specs.Folding.{arrival_place, known_arrivals, folded, is_forgotten, prune_answer, recalled}
use Rattle.event_log.specs.History.{History, Remembered, is_numbered, message_count, next_place}
use Rattle.event_log.specs.inner.History.{is_arrival_of}
use Rattle.event_log.specs.inner.Legal.{IsSound}
use Rattle.event_log.proofs.ForgottenPlaces.{goes-before}
use Rattle.event_log.proofs.Recalling.{arrivals-are, find-map, is_of, recalled_all, renewed}
use Rattle.event_log.proofs.RecallingKeys.{Rising, arrivals-rise, further, position-cons}

-- ---- where a message came

-- an entry that isn't its arrival is passed over
find-number-past : (h : History) (n a : ℕ) (e : Entry) (es : List Entry) → is_arrival_of n e ≡ false
    → option_map (λ r. r.place) (find (is_of n) (recalled_all h (a + 1) es)) ≡ option_map (λ k. a + 1 + k) (position (is_arrival_of n) es)
    → option_map (λ r. r.place) (find (is_of n) (recalled_all h (a + 1) es)) ≡ option_map (λ k. a + k) (position (is_arrival_of n) (e ∷ es))
find-number-past h n a e es other rest =
    rest
    ∙ (further a (position (is_arrival_of n) es)
    ∙ ap (option_map (λ k. a + k))
    (sym (position-cons (is_arrival_of n) e es ∙ ap (λ b. cond b (Some 0) (option_map (λ k. suc k) (position (is_arrival_of n) es))) other)))

-- the arrival of a message stands where the first entry does that is its arrival
find-number : (h : History) (n a : ℕ) (es : List Entry)
    → option_map (λ r. r.place) (find (is_of n) (recalled_all h a es)) ≡ option_map (λ k. a + k) (position (is_arrival_of n) es)
find-number h n a [] = refl
find-number h n a (Arrival conn channel raw reply ∷ es) =
    by reply (is_numbered n reply) refl (find-number h n (a + 1) es ∙ further a (position (is_arrival_of n) es))
    ∙ ap (option_map (λ k. a + k)) (sym (position-cons (is_arrival_of n) (Arrival conn channel raw reply) es))
  where
    by : (t : Told) (c : Bool) → is_numbered n t ≡ c
        → option_map (λ r. r.place) (find (is_of n) (recalled_all h (a + 1) es))
        ≡ option_map (λ k. a + k) (option_map (λ k. suc k) (position (is_arrival_of n) es))
        → option_map (λ r. r.place)
        (find (is_of n) (cons_option (cond (is_kept t) (Some (recalled h a channel raw t)) None) (recalled_all h (a + 1) es)))
        ≡ option_map (λ k. a + k) (cond (is_numbered n t) (Some 0) (option_map (λ k. suc k) (position (is_arrival_of n) es)))
    by (told.Accepted j) true is rest = let own : a ≡ a + 0 = omega arith in rw is (ap (λ x. Some x) own)
    by (told.Accepted j) false is rest = rw is rest
    by told.Filtered c is rest = rest
    by (told.Refused cause) c is rest = rest
    by (told.Repeat place) c is rest = rest
find-number h n a (Take ticket now ∷ es) = find-number-past h n a (Take ticket now) es refl (find-number h n (a + 1) es)
find-number h n a (Settle outcome ticket now state ∷ es) =
    find-number-past h n a (Settle outcome ticket now state) es refl (find-number h n (a + 1) es)
find-number h n a (Cancel number among mask ∷ es) = find-number-past h n a (Cancel number among mask) es refl (find-number h n (a + 1) es)
find-number h n a (Deploy plan ∷ es) = find-number-past h n a (Deploy plan) es refl (find-number h n (a + 1) es)

-- where the arrival of a message that is remembered stood
abbrev pub remembered_at : History → ℕ → Option ℕ
remembered_at h n = option_map (λ r. r.place) (find (λ r. is_numbered n r.told) h.opening.remembered)

-- a message came where it is remembered to, else where the first entry is its arrival, and nowhere where there is neither
abbrev came_at : History → ℕ → Option ℕ → Option ℕ → ℕ
came_at h n before since =
    option_map_or (λ place. place) (option_or before (option_map (λ k. h.opening.places + k) since))
    (cond (nat_lt n (message_count h)) 0 (next_place h))

arrival_place-is : (h : History) (n : ℕ) → came_at h n (remembered_at h n) (position (is_arrival_of n) h.entries) ≡ arrival_place h n
arrival_place-is h n =
    by (find (is_of n) h.opening.remembered) (find (is_of n) (recalled_all h h.opening.places h.entries)) (find-number h n h.opening.places h.entries)
    ∙ ap (λ o. option_map_or (λ r. r.place) o (cond (nat_lt n (message_count h)) 0 (next_place h)))
    (sym (ap (find (is_of n)) (arrivals-are h)
    ∙ (find-append (is_of n) (map (renewed h) h.opening.remembered) (recalled_all h h.opening.places h.entries)
    ∙ ap (λ o. option_or o (find (is_of n) (recalled_all h h.opening.places h.entries)))
    (find-map (is_of n) (renewed h) (λ r. refl) h.opening.remembered))))
  where
    by : (o q : Option Remembered) → option_map (λ r. r.place) q ≡ option_map (λ k. h.opening.places + k) (position (is_arrival_of n) h.entries)
        → came_at h n (option_map (λ r. r.place) o) (position (is_arrival_of n) h.entries)
        ≡ option_map_or (λ r. r.place) (option_or (option_map (renewed h) o) q) (cond (nat_lt n (message_count h)) 0 (next_place h))
    by (Some r) q same = refl
    by None q same = ap (λ x. option_map_or (λ place. place) x (cond (nat_lt n (message_count h)) 0 (next_place h))) (sym same) ∙ at q
      where
        at : (q : Option Remembered)
            → option_map_or (λ place. place) (option_map (λ r. r.place) q) (cond (nat_lt n (message_count h)) 0 (next_place h))
            ≡ option_map_or (λ r. r.place) q (cond (nat_lt n (message_count h)) 0 (next_place h))
        at None = refl
        at (Some r) = refl

pub came-remembered : (h : History) (n place : ℕ) → remembered_at h n ≡ Some place → place ≡ arrival_place h n
came-remembered h n place before = ap (λ o. came_at h n o (position (is_arrival_of n) h.entries)) (sym before) ∙ arrival_place-is h n

pub came-since : (h : History) (n k : ℕ) → remembered_at h n ≡ None → position (is_arrival_of n) h.entries ≡ Some k
    → h.opening.places + k ≡ arrival_place h n
came-since h n k before since =
    ap (came_at h n None) (sym since) ∙ (ap (λ o. came_at h n o (position (is_arrival_of n) h.entries)) (sym before) ∙ arrival_place-is h n)

pub came-nowhere : (h : History) (n : ℕ) → remembered_at h n ≡ None → position (is_arrival_of n) h.entries ≡ None
    → cond (nat_lt n (message_count h)) 0 (next_place h) ≡ arrival_place h n
came-nowhere h n before since =
    ap (came_at h n None) (sym since) ∙ (ap (λ o. came_at h n o (position (is_arrival_of n) h.entries)) (sym before) ∙ arrival_place-is h n)

-- ---- what stays stands from a place on

-- where places rise, an arrival is found by its own
skipped : (x : Remembered) (rs ys : List Remembered) (low : ℕ) → x.place < low → Rising low ys
    → AllByRecursion (λ r. find (λ y. y.place == r.place) rs ≡ Some r) ys
    → AllByRecursion (λ r. find (λ y. y.place == r.place) (x ∷ rs) ≡ Some r) ys
skipped x rs [] low less rise found = tt
skipped x rs (y ∷ ys) low less rise found =
    let first = rise.0 in
    let other : (x.place == y.place) ≡ false = grind (arith, nat_tests) in
    (rw other found.0, skipped x rs ys (y.place + 1) (omega arith) rise.1 found.1)

by-place : (low : ℕ) (rs : List Remembered) → Rising low rs → AllByRecursion (λ r. find (λ y. y.place == r.place) rs ≡ Some r) rs
by-place low [] rise = tt
by-place low (x ∷ rs) rise =
    let own : (x.place == x.place) ≡ true = grind (arith, nat_tests) in
    (rw own refl, skipped x rs rs (x.place + 1) (omega arith) rise.1 (by-place (x.place + 1) rs rise.1))

all-follow : (P Q : Remembered → Type 0) → ((r : Remembered) → P r → Q r) → (rs : List Remembered) → AllByRecursion P rs → AllByRecursion Q rs
all-follow P Q follows [] all = tt
all-follow P Q follows (r ∷ rs) all = (follows r all.0, all-follow P Q follows rs all.1)

filter-same : (p q : Remembered → Bool) (rs : List Remembered) → AllByRecursion (λ r. p r ≡ q r) rs → filter p rs ≡ filter q rs
filter-same p q [] same = refl
filter-same p q (r ∷ rs) same = let here = same.0 in let rest = filter-same p q rs same.1 in λ i. cond (here i) (r ∷ rest i) (rest i)

module _ (h : History) (sound : IsSound h) (bound : ℕ) (may : prune_answer h bound ≡ None) where
  -- each arrival is forgotten where it stands before that of the first message that isn't
  pub forgotten-before : AllByRecursion (λ r. is_forgotten h bound r ≡ nat_lt r.place (arrival_place h bound)) (known_arrivals h)
  forgotten-before =
      all-follow (λ r. find (λ y. y.place == r.place) (known_arrivals h) ≡ Some r) (λ r. is_forgotten h bound r ≡ nat_lt r.place (arrival_place h bound))
      (λ r found. goes-before h sound bound may (λ y. y.place == r.place) r found) (known_arrivals h) (by-place 0 (known_arrivals h) (arrivals-rise h sound))

  -- so what is remembered are the arrivals from that place on
  pub folded-from : (folded bound h).remembered ≡ filter (λ r. not (nat_lt r.place (arrival_place h bound))) (known_arrivals h)
  folded-from =
      filter-same (λ r. not (is_forgotten h bound r)) (λ r. not (nat_lt r.place (arrival_place h bound))) (known_arrivals h)
      (all-follow (λ r. is_forgotten h bound r ≡ nat_lt r.place (arrival_place h bound))
      (λ r. not (is_forgotten h bound r) ≡ not (nat_lt r.place (arrival_place h bound)))
      (λ r same. ap not same) (known_arrivals h) forgotten-before)
