-- What is promised of an arrival that was answered with a success.
use Rattle.std.proofs.Common.{◌≡◌, ◌<◌, ◌≤◌, inl, inr, ℕ, zero, suc, true, false, ◌||◌, ◌&&◌, List, [], ◌∷◌, length, None, Some, refl, sym, ◌∙◌, ap, subst, arith}
use Rattle.std.specs.Prelude.{slice_get, take}
use Rattle.std.specs.List.{list_any}
use Rattle.std.specs.Option.{option_map_or}
use Rattle.std.proofs.lemmas.Bool.Decides.{eqb_tells}
use Rattle.plan_text.specs.Entries.{IsPlan, PlanEntry}
use Rattle.judge_core.specs.Judging.{key_of, verdict as decided, deliveries_of}
use mathlib.Core.List.{IsPrefix}
use Rattle.event_log.specs.declared.entry.Entry.{Entry}
use Rattle.event_log.specs.declared.entry.Entry.TheVariants as entry
use Rattle.event_log.specs.declared.entry.Told.{Told}
use Rattle.event_log.specs.declared.entry.Told.TheVariants as told
use Rattle.event_log.specs.Answers.{brings, brought_before, has_key, is_first, keeps}
use Rattle.event_log.specs.History.{Accepted, History, before, entry_at, followed_by, message_at, names, next_place, plan_in_force}
use Rattle.event_log.specs.Legal.{MayFollow}
use Rattle.event_log.proofs.Beginning.{opened-sound}
use Rattle.event_log.proofs.Following.{before-since, legal-followed_by, take-below, take-whole}
use Rattle.event_log.proofs.OneMore.{entry-followed_by}
use Rattle.event_log.proofs.Reading.{message-beyond}
use Rattle.event_log.proofs.Replaying.{filtered-is, repeat-is}
use Rattle.book_lock.specs.declared.log_entry.LogEntry.{LogEntry}
use Rattle.book_lock.specs.declared.log_entry.LogEntry.TheVariants as log
use Rattle.std.proofs.Math.Seq.{take-append_seam}
use Rattle.book_core.specs.Receiving.{repeat_of}
use Rattle.conn_worker.specs.Arriving.{IsKnownIn}
use Rattle.book_lock.specs.Log.{IsLegalLog, Log, MayComeNext, after_log, with_entry}
use Rattle.book_lock.specs.inner.Sound.{IsSoundBook}
use Rattle.delivery_worker.specs.Sent.{book_before}
use Rattle.promise.specs.Promise.{Arrival, IsAcceptedAs, IsHeld, IsPromised, IsSuccess, empty_book}
use Rattle.promise.specs.Promise.IsHeld.{from_start, in_log}
use Rattle.promise.specs.Promise.IsPromised.{accepted, filtered, repeated, repeated_unbooked}
use Rattle.promise.proofs.Kept.{accepted-kept, came, first-legal, kept-on, rest-legal, sound-next}

-- ---- the book at an entry

-- a book within a run is sound
pub sound-at : (h : History) (xs : Log) (k : ℕ) → IsSoundBook h → IsLegalLog h xs → IsSoundBook (book_before h xs k)
sound-at h [] zero sound legal = sound
sound-at h [] (suc k) sound legal = sound
sound-at h (x ∷ xs) zero sound legal = sound
sound-at h (x ∷ xs) (suc k) sound legal = sound-at (with_entry h x.1) xs k (sound-next h x.1 sound (first-legal h x xs legal)) (rest-legal h x xs legal)

-- a legal log with an entry before it that may come first
one-more : (h : History) (x : ℕ × LogEntry) (xs : Log) → MayComeNext h x.1 → IsLegalLog (with_entry h x.1) xs → IsLegalLog h (x ∷ xs)
one-more h x xs may legal = record { each = by }
  where
    by : (k : ℕ) (y : ℕ × LogEntry) → slice_get (x ∷ xs) k ≡ Some y → MayComeNext (after_log h (take k (x ∷ xs))) y.1
    by zero y got = let same : x ≡ y = cc in subst (λ (z : ℕ × LogEntry). MayComeNext h z.1) same may
    by (suc k) y got = legal.each k y got

-- the entries up to one of them are a legal log
pub legal-before : (h : History) (xs : Log) (k : ℕ) → IsLegalLog h xs → IsLegalLog h (take k xs)
legal-before h [] zero legal = legal
legal-before h [] (suc k) legal = legal
legal-before h (x ∷ xs) zero legal = record { each = λ j y got. absurd cc }
legal-before h (x ∷ xs) (suc k) legal = one-more h x (take k xs) (first-legal h x xs legal) (legal-before (with_entry h x.1) xs k (rest-legal h x xs legal))

-- and so is each beginning of it
pub legal-prefix : (h : History) (durable entries : Log) → IsPrefix durable entries → IsLegalLog h entries → IsLegalLog h durable
legal-prefix h durable entries begins legal =
    subst (λ (w : Log). IsLegalLog h w) (ap (take (length durable)) (sym begins.1) ∙ take-append_seam durable begins.0)
    (legal-before h entries (length durable) legal)

-- an entry among the first of a log is one of the log
pub got-before : {A : Type 0} (xs : List A) (k j : ℕ) (y : A) → slice_get (take k xs) j ≡ Some y → slice_get xs j ≡ Some y
got-before [] zero j y got = got
got-before [] (suc k) j y got = got
got-before (x ∷ xs) zero j y got = absurd cc
got-before (x ∷ xs) (suc k) zero y got = got
got-before (x ∷ xs) (suc k) (suc j) y got = got-before xs k j y got

-- ---- one entry more

-- the last entry is the one at the next index of the book before it
last-entry : (h : History) (e : Entry) → entry_at (followed_by h e) (next_place h) ≡ Some e
last-entry h e = entry-followed_by h e (next_place h) ∙ elim (eqb_tells (next_place h) (next_place h)) [ inl w ↦ rw w.0 refl | inr w ↦ absurd (w.1 refl) ]

-- the book before it is that book
before-last : (h : History) (e : Entry) → before (followed_by h e) (next_place h) ≡ h
before-last h e =
    before-since (followed_by h e) (length h.entries)
    ∙ ap (λ es. record { opening = h.opening; entries = es }) (take-below h.entries (e ∷ []) (length h.entries) (omega arith) ∙ take-whole h.entries)

-- a filtered message goes nowhere
goes-nowhere : (h : History) (conn channel : ℕ) (raw : List ℕ) → IsSoundBook h → MayFollow h (entry.Arrival conn channel raw told.Filtered)
    → deliveries_of (decided (plan_in_force h) channel raw) ≡ []
goes-nowhere h conn channel raw sound may =
    let e : Entry = entry.Arrival conn channel raw told.Filtered in
    subst (λ (b : History). deliveries_of (decided (plan_in_force b) channel raw) ≡ []) (before-last h e)
    (filtered-is (followed_by h e) (legal-followed_by h e sound.sound.legal may) (next_place h) conn channel raw (last-entry h e)).0

-- an arrival that is first is so before a later entry too
first-before : (h : History) (e : Entry) (channel : ℕ) (raw : List ℕ) (place : ℕ) → place < next_place h
    → is_first (followed_by h e) channel raw place ≡ true → is_first h channel raw place ≡ true
first-before h e channel raw place below is =
    let same : entry_at (followed_by h e) place ≡ entry_at h place =
    entry-followed_by h e place ∙ elim (eqb_tells place (next_place h)) [ inl w ↦ let at = w.1 in absurd (omega arith) | inr w ↦ rw w.0 refl ] in
    sym (ap (λ o. list_any (λ r. has_key (key_of channel raw) r && brought_before place raw r) h.opening.remembered
    || option_map_or (λ e. keeps (key_of channel raw) e && brings raw e) o false) same) ∙ is

-- what a repeat repeats
repeats : (h : History) (conn channel place : ℕ) (raw : List ℕ) → IsSoundBook h → MayFollow h (entry.Arrival conn channel raw (told.Repeat place))
    → is_first h channel raw place ≡ true
repeats h conn channel place raw sound may =
    let e : Entry = entry.Arrival conn channel raw (told.Repeat place) in
    let found = repeat-is (followed_by h e) sound.sound.opening (legal-followed_by h e sound.sound.legal may) (next_place h) conn channel place raw (last-entry h e) in
    first-before h e channel raw place found.0 found.1

-- ---- the empty book

pub empty-sound : (plan : PlanEntry) (events_max : ℕ) → IsPlan plan → events_max ≤ 1000000 → IsSoundBook (empty_book plan events_max)
empty-sound plan events_max good few = record { sound = opened-sound plan events_max good; few = few }

-- it has no message
pub none-yet : (plan : PlanEntry) (events_max n : ℕ) → message_at (empty_book plan events_max) n ≡ None
none-yet plan events_max n = message-beyond (empty_book plan events_max) n (omega arith)

-- ---- a run

module _ (h : History) (sound : IsSoundBook h) (xs : Log) (legal : IsLegalLog h xs) where
  is-accepted : (n channel : ℕ) (raw : List ℕ) (a : Arrival xs channel raw (told.Accepted n)) → IsAcceptedAs h xs (after_log h xs) channel raw n
  is-accepted n channel raw a = record { arrival = a; kept = accepted-kept h xs a.index a.seat a.conn channel raw n sound legal a.is }

  -- each message that the book has at some moment is kept
  pub held-at : (k n : ℕ) (m : Accepted) → message_at (book_before h xs k) n ≡ Some m → IsHeld h xs (after_log h xs) n m
  held-at k n m is = elim (came h (take k xs) n m sound (legal-before h xs k legal) is) [
    | inl old ↦ from_start old (kept-on h xs n m sound legal old)
    | inr c ↦ in_log (is-accepted n m.channel m.raw (record {
      index = c.arrival.index;
      seat = c.arrival.seat;
      conn = c.arrival.conn;
      is = got-before xs k c.arrival.index (c.arrival.seat, log.Booked (entry.Arrival c.arrival.conn m.channel m.raw (told.Accepted n))) c.arrival.is;
    }))
  ]

  pub promised : (channel : ℕ) (raw : List ℕ) (t : Told) → IsSuccess t → Arrival xs channel raw t → IsPromised h xs (after_log h xs) channel raw
  promised channel raw (told.Accepted n) ok a = accepted n (is-accepted n channel raw a)
  promised channel raw told.Filtered ok a =
      let may = legal.each a.index (a.seat, log.Booked (entry.Arrival a.conn channel raw told.Filtered)) a.is in
      let nowhere = goes-nowhere (book_before h xs a.index) a.conn channel raw (sound-at h xs a.index sound legal) may in
      filtered (record { arrival = a; nowhere = λ d. ap (names d) nowhere })
  promised channel raw (told.Refused cause) ok a = absurd ok
  promised channel raw (told.Repeat place) ok a =
      let may = legal.each a.index (a.seat, log.Booked (entry.Arrival a.conn channel raw (told.Repeat place))) a.is in
      repeated (record {
        place = place;
        arrival = a;
        first = repeats (book_before h xs a.index) a.conn channel place raw (sound-at h xs a.index sound legal) may;
        kept = λ n m is same_channel same_raw. held-at a.index n m is;
      })

  -- what the book knew at some moment is kept
  pub promised-unbooked : (channel : ℕ) (raw : List ℕ) → IsKnownIn h xs channel raw → IsPromised h xs (after_log h xs) channel raw
  promised-unbooked channel raw known =
      let index : ℕ = length known.before in
      let cut : take index xs ≡ known.before = ap (take index) known.is_seen ∙ take-append_seam known.before known.since in
      repeated_unbooked (record {
        index = index;
        place = known.first;
        first = ap (λ (l : Log). repeat_of (after_log h l) channel raw) cut ∙ known.repeats;
        kept = λ n m is same_channel same_raw. held-at index n m is;
      })
