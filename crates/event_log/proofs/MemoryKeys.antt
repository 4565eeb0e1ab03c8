-- No two arrivals that a history keeps have the same key.
use Rattle.std.proofs.Common.{◌≡◌, ℕ, ◌+◌, ◌<◌, Bool, true, false, cond, not, List, [], ◌∷◌, ◌++◌, length, map, take, Option, None, Some, refl, sym, ◌∙◌, ap, subst, arith}
use Rattle.std.specs.Prelude.{All, AllPairs, find, option_to_list}
use Rattle.std.specs.List.{AllByRecursion, cons_option, filter_map}
use Rattle.std.specs.Option.{option_map, option_map_or}
use Rattle.std.specs.Str.{bytes_eq}
use Rattle.std.proofs.lemmas.List.{append-nil, append_assoc, get_or-map, length-map}
use Rattle.std.proofs.lemmas.List.Elements.{All-from_recursion, filter_map-append}
use Rattle.std.proofs.lemmas.List.Kept.{AllPairs-filter}
use Rattle.std.proofs.lemmas.List.Quantifiers.{all_pairs_push}
use Rattle.hl7_head.specs.declared.ack.Cause.TheVariants.{IdReused}
use Rattle.plan_text.specs.inner.Same.{text_laws}
use Rattle.judge_core.specs.Judging.{verdict as decided, is_bookable, key_of}
use Rattle.event_log.specs.declared.entry.Entry.{Entry}
use Rattle.event_log.specs.declared.entry.Entry.TheVariants.{Arrival, Take, Settle, Cancel, Deploy}
use Rattle.event_log.specs.declared.entry.Told.{Told}
use Rattle.event_log.specs.declared.entry.Told.TheVariants as told
use Rattle.event_log.specs.Answers.{arrival_answer, brings_at, has_key, is_kept, known, told_again, told_by}
use Rattle.event_log.specs.Folding.{known_arrivals, folded, is_forgotten, recalled}
use Rattle.event_log.specs.History.{History, Remembered, begun, followed_by, message_count, plan_in_force}
use Rattle.event_log.specs.Legal.{IsLegal, MayFollow}
use Rattle.event_log.specs.inner.Legal.{IsSound}
use Rattle.event_log.proofs.Events.{arrival-told}
use Rattle.event_log.proofs.Following.{follows-since, take-below, take-whole}
use Rattle.event_log.proofs.Recalling.{arrivals-are, with_more, get-after, recalled_all, renewed}
use Rattle.event_log.proofs.RecallingKeys.{known-arrivals}

-- ---- keys alone

abbrev own_key : Remembered → List ℕ
own_key r = key_of r.channel r.raw

-- the key that an entry brings: of an arrival told Accepted or Filtered
abbrev key_in : Entry → Option (List ℕ)
key_in (Arrival conn channel raw reply) = cond (is_kept reply) (Some (key_of channel raw)) None
key_in (Take ticket now) = None
key_in (Settle outcome ticket now state) = None
key_in (Cancel number among mask) = None
key_in (Deploy plan) = None

-- all keys of a history, in their order
abbrev seen : History → List (List ℕ)
seen h = map own_key h.opening.remembered ++ filter_map key_in h.entries

map-append : (xs ys : List Remembered) → map own_key (xs ++ ys) ≡ map own_key xs ++ map own_key ys
map-append [] ys = refl
map-append (x ∷ xs) ys = ap (λ ks. own_key x ∷ ks) (map-append xs ys)

keys-renewed : (h : History) (rs : List Remembered) → map own_key (map (renewed h) rs) ≡ map own_key rs
keys-renewed h [] = refl
keys-renewed h (r ∷ rs) = ap (λ ks. own_key r ∷ ks) (keys-renewed h rs)

keys-entries : (h : History) (a : ℕ) (es : List Entry) → map own_key (recalled_all h a es) ≡ filter_map key_in es
keys-entries h a [] = refl
keys-entries h a (Arrival conn channel raw reply ∷ es) = by (is_kept reply) (keys-entries h (a + 1) es)
  where
    by : (b : Bool) → map own_key (recalled_all h (a + 1) es) ≡ filter_map key_in es
        → map own_key (cons_option (cond b (Some (recalled h a channel raw reply)) None) (recalled_all h (a + 1) es)) ≡ cons_option (cond b (Some (key_of channel raw)) None) (filter_map key_in es)
    by true rest = ap (λ ks. key_of channel raw ∷ ks) rest
    by false rest = rest
keys-entries h a (Take ticket now ∷ es) = keys-entries h (a + 1) es
keys-entries h a (Settle outcome ticket now state ∷ es) = keys-entries h (a + 1) es
keys-entries h a (Cancel number among mask ∷ es) = keys-entries h (a + 1) es
keys-entries h a (Deploy plan ∷ es) = keys-entries h (a + 1) es

-- they are those of the arrivals that are kept
keys-of : (h : History) → map own_key (known_arrivals h) ≡ seen h
keys-of h =
    ap (map own_key) (arrivals-are h)
    ∙ (map-append (map (renewed h) h.opening.remembered) (recalled_all h h.opening.places h.entries)
    ∙ (λ i. keys-renewed h h.opening.remembered i ++ keys-entries h h.opening.places h.entries i))

-- ---- a key is new

new-key : (h : History) (channel : ℕ) (raw : List ℕ) (t : Told) → arrival_answer h channel raw ≡ Some t → is_kept t ≡ true → known h (key_of channel raw) ≡ None
unfolding arrival_answer
new-key h channel raw t is kept = by (is_bookable raw) (known h (key_of channel raw)) is
  where
    again : {A : Type 0} → (b : Bool) (place : ℕ) → ◌≡◌ {A = Option Told} (Some (cond b (told.Repeat place) (told.Refused IdReused))) (Some t) → A
    again true place e = let same : told.Repeat place ≡ t = cc in let no : is_kept t ≡ false = ap is_kept (sym same) in absurd cc
    again false place e = let same : told.Refused IdReused ≡ t = cc in let no : is_kept t ≡ false = ap is_kept (sym same) in absurd cc

    by : (b : Bool) (o : Option ℕ) → cond b (option_map_or (λ place. Some (told_again h raw place)) o (told_by (message_count h) (decided (plan_in_force h) channel raw))) None ≡ Some t → o ≡ None
    by b None e = refl
    by false (Some place) e = absurd cc
    by true (Some place) e = again (brings_at h raw place) place e

unfound : (key : List ℕ) (rs : List Remembered) → find (has_key key) rs ≡ None → AllByRecursion (λ k. bytes_eq k key ≡ false) (map own_key rs)
unfound key [] is = tt
unfound key (r ∷ rs) is = by (has_key key r) refl is (λ e. unfound key rs e)
  where
    by : (b : Bool) → has_key key r ≡ b → cond b (Some r) (find (has_key key) rs) ≡ None → (find (has_key key) rs ≡ None → AllByRecursion (λ k. bytes_eq k key ≡ false) (map own_key rs))
        → (bytes_eq (own_key r) key ≡ false) × AllByRecursion (λ k. bytes_eq k key ≡ false) (map own_key rs)
    by true has e rest = absurd cc
    by false has e rest = (text_laws.symm (own_key r) key ∙ has, rest e)

fresh-key : (h : History) (channel : ℕ) (raw : List ℕ) → known h (key_of channel raw) ≡ None → All (λ k. bytes_eq k (key_of channel raw) ≡ false) (seen h)
fresh-key h channel raw none =
    subst (All (λ k. bytes_eq k (key_of channel raw) ≡ false)) (keys-of h)
    (All-from_recursion (λ k. bytes_eq k (key_of channel raw) ≡ false) (map own_key (known_arrivals h)) (unfound (key_of channel raw) (known_arrivals h)
    (by (find (has_key (key_of channel raw)) (known_arrivals h)) (sym (known-arrivals h (key_of channel raw)) ∙ none))))
  where
    by : (o : Option Remembered) → option_map (λ r. r.place) o ≡ None → o ≡ None
    by None is = refl
    by (Some r) is = absurd cc

-- ---- one entry more

abbrev AreApart : List (List ℕ) → Type 0
AreApart ks = AllPairs (λ a b. bytes_eq a b ≡ false) ks

seen-followed_by : (h : History) (e : Entry) → seen (followed_by h e) ≡ seen h ++ option_to_list (key_in e)
seen-followed_by h e =
    ap (λ ks. map own_key h.opening.remembered ++ ks) (filter_map-append key_in h.entries (e ∷ []) ∙ ap (λ ks. filter_map key_in h.entries ++ ks) (one (key_in e)))
    ∙ sym (append_assoc (map own_key h.opening.remembered) (filter_map key_in h.entries) (option_to_list (key_in e)))
  where
    one : (o : Option (List ℕ)) → cons_option o [] ≡ option_to_list o
    one None = refl
    one (Some k) = refl

apart-with : (h : History) (e : Entry) → MayFollow h e → AreApart (seen h) → AreApart (seen h ++ option_to_list (key_in e))
apart-with h (Arrival conn channel raw reply) may apart = by (is_kept reply) refl
  where
    by : (b : Bool) → is_kept reply ≡ b → AreApart (seen h ++ option_to_list (cond b (Some (key_of channel raw)) None))
    by true kept =
        all_pairs_push (λ a b. bytes_eq a b ≡ false) (seen h) (key_of channel raw) apart
        (λ k d inside. fresh-key h channel raw (new-key h channel raw reply (arrival-told h conn channel raw reply may.replied) kept) k d inside)
    by false kept = subst AreApart (sym (append-nil (seen h))) apart
apart-with h (Take ticket now) may apart = subst AreApart (sym (append-nil (seen h))) apart
apart-with h (Settle outcome ticket now state) may apart = subst AreApart (sym (append-nil (seen h))) apart
apart-with h (Cancel number among mask) may apart = subst AreApart (sym (append-nil (seen h))) apart
apart-with h (Deploy plan) may apart = subst AreApart (sym (append-nil (seen h))) apart

apart-on : (h : History) (es : List Entry) → IsLegal (with_more h es) → AreApart (seen h) → AreApart (seen (with_more h es))
apart-on h [] legal apart = subst (λ xs. AreApart (map own_key h.opening.remembered ++ filter_map key_in xs)) (sym (append-nil h.entries)) apart
apart-on h (e ∷ es) legal apart =
    let front : take (length h.entries) (h.entries ++ (e ∷ es)) ≡ h.entries = take-below h.entries (e ∷ es) (length h.entries) (omega arith) ∙ take-whole h.entries in
    let may : MayFollow h e = subst (λ xs. MayFollow (record { opening = h.opening; entries = xs }) e) front (follows-since (with_more h (e ∷ es)) legal (length h.entries) e (get-after h.entries es e)) in
    let joined : h.entries ++ e ∷ [] ++ es ≡ h.entries ++ (e ∷ es) = append_assoc h.entries (e ∷ []) es in
    subst (λ xs. AreApart (map own_key h.opening.remembered ++ filter_map key_in xs)) joined
    (apart-on (followed_by h e) es (subst (λ xs. IsLegal (record { opening = h.opening; entries = xs })) (sym joined) legal) (subst AreApart (sym (seen-followed_by h e)) (apart-with h e may apart)))

-- ---- arrivals

module _ (h : History) (sound : IsSound h) where
  -- those of the opening
  apart-before : AreApart (map own_key h.opening.remembered)
  apart-before i j d before inside =
      let dummy : Remembered = recalled h 0 0 [] told.Filtered in
      let many = length-map h.opening.remembered own_key in
      let later : j < length h.opening.remembered = omega arith in
      let earlier : i < length h.opening.remembered = omega arith in
      (λ t. bytes_eq (get_or-map own_key h.opening.remembered i dummy d earlier t) (get_or-map own_key h.opening.remembered j dummy d later t)) ∙ sound.opening.keys i j dummy before later

  pub arrivals-apart : AllPairs (λ r s. has_key (key_of r.channel r.raw) s ≡ false) (known_arrivals h)
  arrivals-apart i j d before inside =
      let all : AreApart (map own_key (known_arrivals h)) = subst AreApart (sym (keys-of h)) (apart-on (begun h.opening) h.entries sound.legal (subst AreApart (sym (append-nil (map own_key h.opening.remembered))) apart-before)) in
      let many = length-map (known_arrivals h) own_key in
      let low : j < length (map own_key (known_arrivals h)) = omega arith in
      let earlier : i < length (known_arrivals h) = omega arith in
      (λ t. bytes_eq (sym (get_or-map own_key (known_arrivals h) i d (own_key d) earlier) t) (sym (get_or-map own_key (known_arrivals h) j d (own_key d) inside) t)) ∙ all i j (own_key d) before low

  pub folded-keys : (bound : ℕ) → AllPairs (λ r s. has_key (key_of r.channel r.raw) s ≡ false) (folded bound h).remembered
  folded-keys bound = AllPairs-filter (λ r s. has_key (key_of r.channel r.raw) s ≡ false) (λ r. not (is_forgotten h bound r)) (known_arrivals h) arrivals-apart
