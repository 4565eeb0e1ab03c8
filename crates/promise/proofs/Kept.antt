-- A message that was accepted is kept, or was until it was forgotten.
use Rattle.std.proofs.Common.{◌≡◌, ◌+◌, ◌<◌, ◌≤◌, ◌⊎◌, inl, inr, ℕ, zero, suc, Bool, true, false, cond, List, [], ◌∷◌, None, Some, refl, sym, ◌∙◌, ap, subst, arith}
use Rattle.std.specs.Prelude.{is_some, slice_get, take}
use Rattle.std.specs.Option.{option_map_or}
use Rattle.std.proofs.lemmas.Bool.Decides.{eqb_tells}
use Rattle.dest_queue.specs.declared.SlotState.{SlotState}
use Rattle.event_log.specs.declared.entry.Entry.{Entry}
use Rattle.event_log.specs.declared.entry.Entry.TheVariants as entry
use Rattle.event_log.specs.declared.entry.Told.TheVariants as told
use Rattle.event_log.specs.Folding.{folded, prune_answer, pruned}
use Rattle.event_log.specs.History.{Accepted, History, accepted_by, accepted_under, deliveries, followed_by, message_at, message_count, names, plan_in_force, state}
use Rattle.event_log.specs.Counting.{destination_counts}
use Rattle.event_log.specs.Legal.{MayFollow}
use Rattle.event_log.proofs.Beginning.{begun-sound}
use Rattle.event_log.proofs.Events.{arrivable}
use Rattle.event_log.proofs.Fitting.{sound-followed_by}
use Rattle.event_log.proofs.FoldedAlike.{message-gone, message-kept, quiet}
use Rattle.event_log.proofs.FoldedCounts.{folded-counts}
use Rattle.event_log.proofs.FoldedGood.{folded-good}
use Rattle.event_log.proofs.Arriving.{accepted-number}
use Rattle.event_log.proofs.OneMore.{lt-tells, message-followed_by}
use Rattle.event_log.proofs.Reading.{message-exists}
use Rattle.book_core.proofs.ThreeSums.{were-taken}
use Rattle.book_lock.specs.declared.log_entry.LogEntry.{LogEntry}
use Rattle.book_lock.specs.declared.log_entry.LogEntry.TheVariants as log
use Rattle.book_lock.specs.Log.{IsLegalLog, Log, MayComeNext, after_log, with_entry}
use Rattle.book_lock.specs.inner.Sound.{IsSoundBook}
use Rattle.promise.specs.Promise.{Arrival, IsAcceptedAs, IsKept, IsKeptFor, WasForgotten, goes_to}

-- ---- soundness

-- a book that is pruned stays sound, and so does one with an entry that may come next
pub sound-next : (h : History) (x : LogEntry) → IsSoundBook h → MayComeNext h x → IsSoundBook (with_entry h x)
sound-next h (log.Booked e) is may = record { sound = sound-followed_by h e is.sound may; few = is.few }
sound-next h (log.Pruned before) is may =
    let taken : (d : ℕ) → d < 32 → (destination_counts h d).inflight + (destination_counts h d).delivered ≤ (destination_counts h d).attempts = were-taken h is.sound in record {
      sound = begun-sound (folded before h) (folded-good h is.sound before may is.few (folded-counts h is.sound before may is.few taken) taken);
      few = is.few;
    }
sound-next h (log.Durable below) is may = is

pub first-legal : (h : History) (x : ℕ × LogEntry) (xs : Log) → IsLegalLog h (x ∷ xs) → MayComeNext h x.1
first-legal h x xs legal = legal.each 0 x refl

pub rest-legal : (h : History) (x : ℕ × LogEntry) (xs : Log) → IsLegalLog h (x ∷ xs) → IsLegalLog (with_entry h x.1) xs
rest-legal h x xs legal = record { each = λ k y got. legal.each (suc k) y got }

-- ---- one more entry before

later : (h : History) (x : ℕ × LogEntry) (xs : Log) (goes : ℕ → Bool) (n : ℕ) → WasForgotten (with_entry h x.1) xs goes n → WasForgotten h (x ∷ xs) goes n
later h x xs goes n w = record { index = suc w.index; seat = w.seat; bound = w.bound; pruned = w.pruned; is_below = w.is_below; kept = w.kept; settled = w.settled }

kept-later : (h book : History) (x : ℕ × LogEntry) (xs : Log) (goes : ℕ → Bool) (n : ℕ) → IsKept (with_entry h x.1) xs book goes n → IsKept h (x ∷ xs) book goes n
kept-later h book x xs goes n is = elim is [ inl k ↦ inl k | inr w ↦ inr (later h x xs goes n w) ]

pub accepted-later : (h book : History) (x : ℕ × LogEntry) (xs : Log) (channel : ℕ) (raw : List ℕ) (n : ℕ)
    → IsAcceptedAs (with_entry h x.1) xs book channel raw n → IsAcceptedAs h (x ∷ xs) book channel raw n
accepted-later h book x xs channel raw n a = record {
  arrival = record { index = suc a.arrival.index; seat = a.arrival.seat; conn = a.arrival.conn; is = a.arrival.is };
  kept = kept-later h book x xs (goes_to (plan_in_force (after_log (with_entry h x.1) (take a.arrival.index xs))) channel raw) n a.kept;
}

-- ---- a message stays

-- the slots of a message are those that its deliveries name
slots-named : (h : History) (n : ℕ) (m : Accepted) → message_at h n ≡ Some m → IsKeptFor (λ d. names d m.deliveries) n h
slots-named h n m is d =
    by (names d (deliveries h n)) (state h n d) ∙ ap (λ o. names d (option_map_or (λ m. m.deliveries) o [])) is
  where
    by : (b : Bool) (s : SlotState) → is_some (cond b (Some s) None) ≡ b
    by true s = refl
    by false s = refl

-- a message that there is has a number below that of the next
numbered : (h : History) (n : ℕ) (m : Accepted) → message_at h n ≡ Some m → n < message_count h
numbered h n m is = message-exists h n (ap is_some is)

-- it stays with an entry more
stays : (h : History) (e : Entry) (n : ℕ) (m : Accepted) → message_at h n ≡ Some m → message_at (followed_by h e) n ≡ Some m
stays h e n m is =
    let below = numbered h n m is in
    message-followed_by h e n ∙ elim (eqb_tells n (message_count h)) [
      | inl w ↦ let same = w.1 in absurd (omega arith)
      | inr w ↦ rw w.0 is
    ]

-- from a book on that has a message, it is kept for where it goes, or was until it was forgotten
pub kept-on : (h : History) (xs : Log) (n : ℕ) (m : Accepted) → IsSoundBook h → IsLegalLog h xs → message_at h n ≡ Some m
    → IsKept h xs (after_log h xs) (λ d. names d m.deliveries) n
kept-on h [] n m sound legal is = inl (slots-named h n m is)
kept-on h ((seat, log.Booked e) ∷ xs) n m sound legal is =
    let x : ℕ × LogEntry = (seat, log.Booked e) in
    let may = first-legal h x xs legal in
    kept-later h (after_log (followed_by h e) xs) x xs (λ d. names d m.deliveries) n
    (kept-on (followed_by h e) xs n m (sound-next h (log.Booked e) sound may) (rest-legal h x xs legal) (stays h e n m is))
kept-on h ((seat, log.Pruned bound) ∷ xs) n m sound legal is =
    let x : ℕ × LogEntry = (seat, log.Pruned bound) in
    let may : prune_answer h bound ≡ None = first-legal h x xs legal in
    elim (lt-tells n bound) [
      | inl w ↦ inr (record {
        index = 0;
        seat = seat;
        bound = bound;
        pruned = refl;
        is_below = w.1;
        kept = slots-named h n m is;
        settled = λ d. quiet h sound.sound bound may n d w.1;
      })
      | inr w ↦
          kept-later h (after_log (pruned bound h) xs) x xs (λ d. names d m.deliveries) n
          (kept-on (pruned bound h) xs n m (sound-next h (log.Pruned bound) sound may) (rest-legal h x xs legal)
          (message-kept h sound.sound bound may n w.1 ∙ is))
    ]
kept-on h ((seat, log.Durable below) ∷ xs) n m sound legal is =
    let x : ℕ × LogEntry = (seat, log.Durable below) in
    kept-later h (after_log h xs) x xs (λ d. names d m.deliveries) n (kept-on h xs n m sound (rest-legal h x xs legal) is)

-- ---- an arrival that is accepted

-- what an accepted arrival brings is the message of its number
brought : (h : History) (conn channel : ℕ) (raw : List ℕ) (n : ℕ) → MayFollow h (entry.Arrival conn channel raw (told.Accepted n))
    → message_at (followed_by h (entry.Arrival conn channel raw (told.Accepted n))) n ≡ Some (accepted_under (plan_in_force h) channel raw)
brought h conn channel raw n may =
    let number : n ≡ message_count h = accepted-number h channel raw n (arrivable h conn channel raw (told.Accepted n) may).answered in
    message-followed_by h (entry.Arrival conn channel raw (told.Accepted n)) n ∙ elim (eqb_tells n (message_count h)) [
      | inl w ↦ rw w.0 refl
      | inr w ↦ absurd (w.1 number)
    ]

-- each accepted arrival of a legal log is kept
pub accepted-kept : (h : History) (xs : Log) (index seat conn channel : ℕ) (raw : List ℕ) (n : ℕ) → IsSoundBook h → IsLegalLog h xs
    → slice_get xs index ≡ Some (seat, log.Booked (entry.Arrival conn channel raw (told.Accepted n)))
    → IsKept h xs (after_log h xs) (goes_to (plan_in_force (after_log h (take index xs))) channel raw) n
accepted-kept h [] index seat conn channel raw n sound legal is = absurd cc
accepted-kept h (x ∷ xs) zero seat conn channel raw n sound legal is =
    let same : x ≡ (seat, log.Booked (entry.Arrival conn channel raw (told.Accepted n))) = cc in
    subst (λ (y : ℕ × LogEntry). IsKept h (y ∷ xs) (after_log h (y ∷ xs)) (goes_to (plan_in_force h) channel raw) n) (sym same) (at (subst (λ (y : ℕ × LogEntry). IsLegalLog h (y ∷ xs)) same legal))
  where
    e : Entry
    e = entry.Arrival conn channel raw (told.Accepted n)

    at : IsLegalLog h ((seat, log.Booked e) ∷ xs) → IsKept h ((seat, log.Booked e) ∷ xs) (after_log (followed_by h e) xs) (goes_to (plan_in_force h) channel raw) n
    at right =
        let may = first-legal h (seat, log.Booked e) xs right in
        kept-later h (after_log (followed_by h e) xs) (seat, log.Booked e) xs (goes_to (plan_in_force h) channel raw) n
        (kept-on (followed_by h e) xs n (accepted_under (plan_in_force h) channel raw) (sound-next h (log.Booked e) sound may)
        (rest-legal h (seat, log.Booked e) xs right) (brought h conn channel raw n may))
accepted-kept h (x ∷ xs) (suc index) seat conn channel raw n sound legal is =
    kept-later h (after_log (with_entry h x.1) xs) x xs (goes_to (plan_in_force (after_log (with_entry h x.1) (take index xs))) channel raw) n
    (accepted-kept (with_entry h x.1) xs index seat conn channel raw n (sound-next h x.1 sound (first-legal h x xs legal)) (rest-legal h x xs legal) is)

-- ---- where a message comes from

-- what brought a message is its accepted arrival
record Bringing (h : History) (e : Entry) (m : Accepted) : Type 0 where
  conn : ℕ
  number : ℕ
  is : e ≡ entry.Arrival conn m.channel m.raw (told.Accepted number)

by-arrival : (h : History) (e : Entry) (m : Accepted) → accepted_by (plan_in_force h) e ≡ Some m → Bringing h e m
by-arrival h (entry.Arrival conn channel raw (told.Accepted k)) m is =
    let same : accepted_under (plan_in_force h) channel raw ≡ m = cc in
    record { conn = conn; number = k; is = λ i. entry.Arrival conn (same i).channel (same i).raw (told.Accepted k) }
by-arrival h (entry.Arrival conn channel raw told.Filtered) m is = absurd cc
by-arrival h (entry.Arrival conn channel raw (told.Refused cause)) m is = absurd cc
by-arrival h (entry.Arrival conn channel raw (told.Repeat place)) m is = absurd cc
by-arrival h (entry.Take ticket now) m is = absurd cc
by-arrival h (entry.Settle outcome ticket now state) m is = absurd cc
by-arrival h (entry.Cancel number among mask) m is = absurd cc
by-arrival h (entry.Deploy plan) m is = absurd cc

-- the accepted arrival of a message that a log brought
pub record Came (h : History) (xs : Log) (n : ℕ) (m : Accepted) : Type 0 where
  pub arrival : Arrival xs m.channel m.raw (told.Accepted n)

came-later : (h : History) (x : ℕ × LogEntry) (xs : Log) (n : ℕ) (m : Accepted) → Came (with_entry h x.1) xs n m → Came h (x ∷ xs) n m
came-later h x xs n m c = record { arrival = record { index = suc c.arrival.index; seat = c.arrival.seat; conn = c.arrival.conn; is = c.arrival.is } }

-- a message of a book with one entry more was there before, or that entry is its arrival
new-or-old : (h : History) (seat : ℕ) (e : Entry) (xs : Log) (n : ℕ) (m : Accepted) → MayFollow h e → message_at (followed_by h e) n ≡ Some m
    → (message_at h n ≡ Some m) ⊎ Came h ((seat, log.Booked e) ∷ xs) n m
new-or-old h seat e xs n m may is =
    elim (eqb_tells n (message_count h)) [
      | inl w ↦
          let brings : accepted_by (plan_in_force h) e ≡ Some m = sym (message-followed_by h e n ∙ rw w.0 refl) ∙ is in
          let by = by-arrival h e m brings in
          let own : MayFollow h (entry.Arrival by.conn m.channel m.raw (told.Accepted by.number)) = subst (MayFollow h) by.is may in
          let number : by.number ≡ message_count h =
          accepted-number h m.channel m.raw by.number (arrivable h by.conn m.channel m.raw (told.Accepted by.number) own).answered in
          let same : by.number ≡ n = number ∙ sym w.1 in
          inr (record {
            arrival = record {
              index = 0;
              seat = seat;
              conn = by.conn;
              is = ap (λ (y : Entry). Some (seat, log.Booked y)) (by.is ∙ ap (λ (j : ℕ). entry.Arrival by.conn m.channel m.raw (told.Accepted j)) same);
            };
          })
      | inr w ↦ inl (sym (message-followed_by h e n ∙ rw w.0 refl) ∙ is)
    ]

-- each message of a book that a log made was there before, or arrived in the log
pub came : (h : History) (xs : Log) (n : ℕ) (m : Accepted) → IsSoundBook h → IsLegalLog h xs → message_at (after_log h xs) n ≡ Some m
    → (message_at h n ≡ Some m) ⊎ Came h xs n m
came h [] n m sound legal is = inl is
came h ((seat, log.Booked e) ∷ xs) n m sound legal is =
    let x : ℕ × LogEntry = (seat, log.Booked e) in
    let may = first-legal h x xs legal in
    elim (came (followed_by h e) xs n m (sound-next h (log.Booked e) sound may) (rest-legal h x xs legal) is) [
      | inl old ↦ new-or-old h seat e xs n m may old
      | inr c ↦ inr (came-later h x xs n m c)
    ]
came h ((seat, log.Pruned bound) ∷ xs) n m sound legal is =
    let x : ℕ × LogEntry = (seat, log.Pruned bound) in
    let may : prune_answer h bound ≡ None = first-legal h x xs legal in
    elim (came (pruned bound h) xs n m (sound-next h (log.Pruned bound) sound may) (rest-legal h x xs legal) is) [
      | inl old ↦ elim (lt-tells n bound) [
        | inl w ↦ let gone = message-gone h sound.sound bound may n w.1 in absurd cc
        | inr w ↦ inl (sym (message-kept h sound.sound bound may n w.1) ∙ old)
      ]
      | inr c ↦ inr (came-later h x xs n m c)
    ]
came h ((seat, log.Durable below) ∷ xs) n m sound legal is =
    let x : ℕ × LogEntry = (seat, log.Durable below) in
    elim (came h xs n m sound (rest-legal h x xs legal) is) [ inl old ↦ inl old | inr c ↦ inr (came-later h x xs n m c) ]
