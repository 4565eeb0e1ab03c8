-- What a book knows of a message's key and bytes, it knew before each pruning, and what is durable has it.
use Rattle.std.proofs.Common.{◌≡◌, ◌≤◌, ◌⊎◌, inl, inr, ℕ, Bool, true, false, cond, ◌||◌, List, [], ◌∷◌, ◌++◌, Option, None, Some, filter, find, refl, sym, ◌∙◌, ap, subst, arith, length-append}
use Rattle.std.specs.Prelude.{not, option_and_then, nat_le, nat_lt, slice_get, ◌-◌}
use Rattle.std.specs.List.{list_any}
use Rattle.std.specs.Option.{option_map, option_map_or}
use Rattle.std.specs.Str.{bytes_eq}
use Rattle.std.proofs.lemmas.List.{append-nil}
use mathlib.Core.List.{IsPrefix}
use Rattle.judge_core.specs.Judging.{is_bookable, key_of}
use Rattle.event_log.specs.declared.entry.Entry.{Entry}
use Rattle.event_log.specs.Answers.{arrival_answer, brings, brings_at, brought_before, has_key, known}
use Rattle.event_log.specs.Folding.{arrival_place, is_forgotten, known_arrivals, prune_answer, pruned}
use Rattle.event_log.specs.History.{History, Remembered, entry_at, followed_by, next_place}
use Rattle.event_log.specs.inner.Legal.{IsSound}
use Rattle.event_log.proofs.ForgottenPlaces.{known-pruned}
use Rattle.event_log.proofs.RecallingKeys.{arrivals-rise, brings-arrival, found-brought, known-arrivals}
use Rattle.book_core.specs.Receiving.{repeat_of}
use Rattle.book_core.proofs.Telling.{is-new, is-repeat, is-reused}
use Rattle.book_lock.specs.declared.log_entry.LogEntry.{LogEntry}
use Rattle.book_lock.specs.declared.log_entry.LogEntry.TheVariants as log
use Rattle.book_lock.specs.Log.{IsLegalLog, Log, after_log, with_entry}
use Rattle.book_lock.specs.inner.Sound.{IsSoundBook}
use Rattle.book_lock.proofs.Durability.{grows}
use Rattle.book_lock.proofs.Planning.{after_both}
use Rattle.conn_worker.specs.Arriving.{IsKnownIn}
use Rattle.promise.proofs.Answered.{legal-prefix}
use Rattle.promise.proofs.Kept.{first-legal, rest-legal, sound-next}

-- ---- a repeat, by its key and its bytes

-- a book has a key with these bytes
record KnowsBytes (h : History) (channel : ℕ) (raw : List ℕ) (place : ℕ) : Type 0 where
  bookable : is_bookable raw ≡ true
  key : known h (key_of channel raw) ≡ Some place
  bytes : brings_at h raw place ≡ true

not-bookable : (h : History) (channel : ℕ) (raw : List ℕ) → is_bookable raw ≡ false → repeat_of h channel raw ≡ None
unfolding arrival_answer
not-bookable h channel raw isnt = rw isnt refl

knows-bytes : (h : History) (channel : ℕ) (raw : List ℕ) (place : ℕ) → repeat_of h channel raw ≡ Some place → KnowsBytes h channel raw place
knows-bytes h channel raw place repeats = by (is_bookable raw) refl
  where
    of_bytes : is_bookable raw ≡ true → (at : ℕ) → known h (key_of channel raw) ≡ Some at → (b : Bool) → brings_at h raw at ≡ b → KnowsBytes h channel raw place
    of_bytes is at key true bytes =
        let both : Some at ≡ Some place = is-repeat h channel raw is at key bytes ∙ repeats in
        let same : at ≡ place = cc in
        record { bookable = is; key = key ∙ both; bytes = subst (λ (n : ℕ). brings_at h raw n ≡ true) same bytes }
    of_bytes is at key false bytes = let none : None ≡ Some place = is-reused h channel raw is at key bytes ∙ repeats in absurd cc

    of_key : is_bookable raw ≡ true → (o : Option ℕ) → known h (key_of channel raw) ≡ o → KnowsBytes h channel raw place
    of_key is (Some at) key = of_bytes is at key (brings_at h raw at) refl
    of_key is None key = let none : None ≡ Some place = is-new h channel raw is key ∙ repeats in absurd cc

    by : (b : Bool) → is_bookable raw ≡ b → KnowsBytes h channel raw place
    by true is = of_key is (known h (key_of channel raw)) refl
    by false isnt = let none : None ≡ Some place = sym (not-bookable h channel raw isnt) ∙ repeats in absurd cc

-- ---- before a pruning

-- what is brought by some of the arrivals is brought by all of them
any-of : (p keep : Remembered → Bool) (rs : List Remembered) → list_any p (filter keep rs) ≡ true → list_any p rs ≡ true
any-of p keep [] is = is
any-of p keep (r ∷ rs) is = by (keep r) (p r) refl (any-of p keep rs) is
  where
    by : (k b : Bool) → p r ≡ b → (list_any p (filter keep rs) ≡ true → list_any p rs ≡ true) → list_any p (cond k (r ∷ filter keep rs) (filter keep rs)) ≡ true → (b || list_any p rs) ≡ true
    by k true at rest e = refl
    by true false at rest e = rest (sym (ap (λ (c : Bool). c || list_any p (filter keep rs)) at) ∙ e)
    by false false at rest e = rest e

module _ (h : History) (sound : IsSound h) (bound : ℕ) (may : prune_answer h bound ≡ None) (channel : ℕ) (raw : List ℕ) (place : ℕ) where
  -- a key that a pruned book has, it had before, at the same index
  key-before : known (pruned bound h) (key_of channel raw) ≡ Some place → known h (key_of channel raw) ≡ Some place
  key-before has = by (known h (key_of channel raw)) (sym (known-pruned h sound bound may (key_of channel raw)) ∙ has)
    where
      kept : (at : ℕ) (b : Bool) → cond b (Some at) None ≡ Some place → Some at ≡ Some place
      kept at true e = e
      kept at false e = absurd cc

      by : (o : Option ℕ) → option_and_then (λ at. cond (nat_le (arrival_place h bound) at) (Some at) None) o ≡ Some place → o ≡ Some place
      by None e = absurd cc
      by (Some at) e = kept at (nat_le (arrival_place h bound) at) e

  -- and the same bytes
  bytes-before : known h (key_of channel raw) ≡ Some place → brings_at (pruned bound h) raw place ≡ true → brings_at h raw place ≡ true
  bytes-before key has = by (find (has_key (key_of channel raw)) (known_arrivals h)) refl (sym (known-arrivals h (key_of channel raw)) ∙ key)
    where
      folded : (b : Bool) (o : Bool) → o ≡ false → (b || o) ≡ true → b ≡ true
      folded true o none e = refl
      folded false o none e = let no : o ≡ true = e in absurd cc

      no-entry : entry_at (pruned bound h) place ≡ None
      no-entry = by_place (nat_lt place (next_place h))
        where
          by_place : (b : Bool) → ◌≡◌ {A = Option Entry} (cond b None (slice_get [] (place - next_place h))) None
          by_place true = refl
          by_place false = refl

      remembered : list_any (brought_before place raw) (known_arrivals h) ≡ true
      remembered = any-of (brought_before place raw) (λ r. not (is_forgotten h bound r)) (known_arrivals h)
          (folded (list_any (brought_before place raw) (filter (λ r. not (is_forgotten h bound r)) (known_arrivals h)))
          (option_map_or (brings raw) (entry_at (pruned bound h) place) false)
          (ap (λ (o : Option Entry). option_map_or (brings raw) o false) no-entry) has)

      by : (o : Option Remembered) → find (has_key (key_of channel raw)) (known_arrivals h) ≡ o → option_map (λ r. r.place) o ≡ Some place → brings_at h raw place ≡ true
      by None found at = absurd cc
      by (Some r) found at =
          let same : r.place ≡ place = cc in
          let own : list_any (brought_before r.place raw) (known_arrivals h) ≡ bytes_eq raw r.raw =
          found-brought (has_key (key_of channel raw)) raw 0 (known_arrivals h) r (arrivals-rise h sound) found in
          ap (brings_at h raw) (sym same)
          ∙ (brings-arrival h sound (key_of channel raw) raw r found
          ∙ (sym own ∙ (ap (λ (n : ℕ). list_any (brought_before n raw) (known_arrivals h)) same ∙ remembered)))

  -- so what it repeats, it repeated before
  pub repeats-before : repeat_of (pruned bound h) channel raw ≡ Some place → repeat_of h channel raw ≡ Some place
  repeats-before repeats =
      let knows = knows-bytes (pruned bound h) channel raw place repeats in
      let key = key-before knows.key in
      sym (is-repeat h channel raw knows.bookable place key (bytes-before key knows.bytes))

-- ---- in a log

-- what is known after prunings alone was known before them
known-since : (h : History) (xs : Log) (channel : ℕ) (raw : List ℕ) (place : ℕ) → IsSoundBook h → IsLegalLog h xs → next_place (after_log h xs) ≤ next_place h
    → repeat_of (after_log h xs) channel raw ≡ Some place → repeat_of h channel raw ≡ Some place
known-since h [] channel raw place sound legal behind is = is
known-since h ((seat, log.Booked e) ∷ xs) channel raw place sound legal behind is =
    absurd (omega (arith, length-append h.entries (e ∷ []), grows (followed_by h e) xs, behind))
known-since h ((seat, log.Pruned bound) ∷ xs) channel raw place sound legal behind is =
    let x : ℕ × LogEntry = (seat, log.Pruned bound) in
    let may : prune_answer h bound ≡ None = first-legal h x xs legal in
    repeats-before h sound.sound bound may channel raw place
    (known-since (pruned bound h) xs channel raw place (sound-next h (log.Pruned bound) sound may) (rest-legal h x xs legal) (omega (arith, behind)) is)
known-since h ((seat, log.Durable below) ∷ xs) channel raw place sound legal behind is =
    known-since h xs channel raw place sound (rest-legal h (seat, log.Durable below) xs legal) behind is

-- a book after a legal log is sound
sound-after : (h : History) (xs : Log) → IsSoundBook h → IsLegalLog h xs → IsSoundBook (after_log h xs)
sound-after h [] sound legal = sound
sound-after h (x ∷ xs) sound legal = sound-after (with_entry h x.1) xs (sound-next h x.1 sound (first-legal h x xs legal)) (rest-legal h x xs legal)

-- the end of a legal log is legal after its beginning
legal-after : (h : History) (xs ys : Log) → IsLegalLog h (xs ++ ys) → IsLegalLog (after_log h xs) ys
legal-after h [] ys legal = legal
legal-after h (x ∷ xs) ys legal = legal-after (with_entry h x.1) xs ys (rest-legal h x (xs ++ ys) legal)

-- of two beginnings of a log one is a beginning of the other
heads : (x y : ℕ × LogEntry) (xs ys : Log) → x ∷ xs ≡ y ∷ ys → x ≡ y
heads x y xs ys e = cc

tails : (x y : ℕ × LogEntry) (xs ys : Log) → x ∷ xs ≡ y ∷ ys → xs ≡ ys
tails x y xs ys e = cc

either : (a b ra rb : Log) → a ++ ra ≡ b ++ rb → IsPrefix a b ⊎ IsPrefix b a
either [] b ra rb e = inl (b, refl)
either (x ∷ a) [] ra rb e = inr (x ∷ a, refl)
either (x ∷ a) (y ∷ b) ra rb e =
    let same : x ≡ y = heads x y (a ++ ra) (b ++ rb) e in
    elim (either a b ra rb (tails x y (a ++ ra) (b ++ rb) e)) [
      | inl p ↦ inl (p.0, ap (λ w. w ∷ (a ++ p.0)) same ∙ ap (λ l. y ∷ l) p.1)
      | inr p ↦ inr (p.0, ap (λ w. w ∷ (b ++ p.0)) (sym same) ∙ ap (λ l. x ∷ l) p.1)
    ]

-- what was known in a log is known in each beginning of it that has all that was booked until then
pub known-within : (h : History) (entries begun : Log) (channel : ℕ) (raw : List ℕ) → IsSoundBook h → IsLegalLog h entries → IsPrefix begun entries
    → (k : IsKnownIn h entries channel raw) → next_place (after_log h k.before) ≤ next_place (after_log h begun) → IsKnownIn h begun channel raw
known-within h entries begun channel raw sound legal begins k behind =
    elim (either k.before begun k.since begins.0 (sym k.is_seen ∙ sym begins.1)) [
      | inl p ↦ record { before = k.before; since = p.0; is_seen = sym p.1; first = k.first; repeats = k.repeats }
      | inr p ↦
          let both : after_log h k.before ≡ after_log (after_log h begun) p.0 = ap (after_log h) (sym p.1) ∙ after_both h begun p.0 in
          let more : IsLegalLog (after_log h begun) p.0 =
          legal-after h begun p.0 (subst (IsLegalLog h) (sym p.1) (legal-prefix h k.before entries (k.since, sym k.is_seen) legal)) in
          record {
            before = begun;
            since = [];
            is_seen = sym (append-nil begun);
            first = k.first;
            repeats = known-since (after_log h begun) p.0 channel raw k.first (sound-after h begun sound (legal-prefix h begun entries begins legal)) more
                (subst (λ (b : History). next_place b ≤ next_place (after_log h begun)) both behind)
                (ap (λ (b : History). repeat_of b channel raw) (sym both) ∙ k.repeats);
          }
    ]
