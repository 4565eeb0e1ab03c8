-- A book is kept by an arrival.
use Rattle.std.proofs.Common.{◌≡◌, ℕ, ◌+◌, ◌<◌, ◌≤◌, Bool, true, false, cond, ◌&&◌, List, [], ◌∷◌, ◌++◌, Option, None, Some, refl, sym, ◌∙◌, ap, subst, arith, rules, length, length-append}
use Rattle.std.specs.Option.{option_map_or}
use Rattle.std.specs.Str.{bytes_eq}
use Rattle.std.proofs.lemmas.Slice.Eq.{bytes_eq-Decides}
use Rattle.mllp_frame.specs.Framing.{IsBlockData}
use Rattle.judge_core.specs.declared.judged.Verdict.{Verdict}
use Rattle.judge_core.specs.Judging.{key_of, verdict as decided}
use Rattle.row_store.specs.declared.Row.{Row}
use Rattle.dest_queue.specs.declared.slots.Queued.{Queued}
use Rattle.dup_index.specs.inner.Known.{Known, place_of}
use Rattle.dup_index.proofs.Seen.{place_of-added}
use Rattle.stat_count.specs.Statistics.{Statistics, channel_at, destination_at}
use Rattle.stat_count.specs.inner.Statistics.{slots_of}
use Rattle.event_log.specs.declared.entry.Told.{Told}
use Rattle.event_log.specs.declared.entry.Entry.TheVariants.{Arrival}
use Rattle.event_log.specs.History.{History, control_id_of, followed_by, message_count, next_place, plan_in_force}
use Rattle.event_log.specs.Answers.{arrival_answer, is_kept, known}
use Rattle.event_log.specs.Room.{is_full, owed, own, slots_added}
use Rattle.event_log.proofs.Arriving.{arrival-step}
use Rattle.event_log.proofs.Steps.{ArrivalStep}
use Rattle.book_core.specs.declared.letter.Outbound.{Outbound}
use Rattle.book_core.specs.inner.Counting.{CountsArrival}
use Rattle.book_core.specs.inner.Parts.{IsKept, KeysAgree}
use Rattle.book_core.specs.declared.arrival.Addition.{Addition}
use Rattle.book_core.specs.inner.Sending.{AddsGain, HasRoomFor, IsAddition}
use Rattle.book_core.proofs.Counted.{received-places, repeats-places, slots_of-places}
use Rattle.book_core.proofs.CountedArrivals.{counted-arrival}
use Rattle.book_core.proofs.RowsAdded.{next-row, rows-arrived}
use Rattle.book_core.proofs.Answering.{told-unknown}
use Rattle.book_core.proofs.Gains.{gain-next}

-- ---- its key

-- equal bytes are the same
same-bytes : (a b : List ℕ) → bytes_eq a b ≡ true → a ≡ b
same-bytes a b same = search (rules, bytes_eq-Decides)

-- where no key is added, a place that is known stays, and so does one that is not
place-either : (o : Option ℕ) → option_map_or (λ place. Some place) o None ≡ o
place-either None = refl
place-either (Some place) = refl

-- ---- the book

module _ (h : History) (rows : List (Row (Queued Outbound))) (index : List Known) (tally : Statistics) (flights room : ℕ) (kept : IsKept h rows index tally flights room) where
  -- places are few
  pub few-places : next_place h ≤ 1001000000
  few-places = omega (arith, kept.sound.room, kept.bound, kept.sound.opening.places_few, kept.sound.opening.prunings_few)

  -- and so is what was received on each channel
  pub few-received : (c : ℕ) → c < 64 → (channel_at c tally).received ≤ 1001000000
  few-received c below = omega (arith, received-places h kept.sound.opening tally c below kept.are_counted, few-places)

  pub few-repeats : (c : ℕ) → c < 64 → (channel_at c tally).repeats ≤ 1001000000
  few-repeats c below = omega (arith, repeats-places h kept.sound.opening tally c below kept.are_counted, few-places)

  -- and the slots of each destination
  pub few-slots : (d : ℕ) → d < 32 → slots_of (destination_at d tally) ≤ 2002000000
  few-slots d below = omega (arith, slots_of-places h kept.sound.opening tally d below kept.are_counted, few-places)

  -- the key of a message that is kept by it is not in the index
  pub key-unknown : (channel : ℕ) (raw looked : List ℕ) (reply : Told) (keeps : Bool) → arrival_answer h channel raw ≡ Some reply → keeps ≡ is_kept reply → looked ≡ key_of channel raw → keeps ≡ true → place_of looked index ≡ None
  key-unknown channel raw looked reply keeps is kept-is key kept-by =
      ap (λ k. place_of k index) key ∙ (kept.keys_agree (key_of channel raw) ∙ told-unknown h channel raw reply is (sym kept-is ∙ kept-by))

  module _ (conn channel : ℕ) (raw : List ℕ) (reply : Told) (fits : IsBlockData raw) (enough : is_full h channel raw ≡ false) (answered : arrival_answer h channel raw ≡ Some reply) where
    -- what it changes
    arrived : ArrivalStep h conn channel raw reply
    arrived = arrival-step h kept.sound conn channel raw reply (record { fits = fits; room = enough; answered = answered })

    -- what is owed grows by what it owes
    pub arrived-owed : owed h + own h channel raw ≡ owed (followed_by h (Arrival conn channel raw reply))
    arrived-owed = sym arrived.owed

    -- there is room for the entry, and for what it owes
    pub arrived-within : (mine : ℕ) → mine ≡ own h channel raw → length h.entries + 1 + (owed h + mine) ≤ h.opening.events_max
    arrived-within mine mine_is = omega (arith, mine_is, arrived.owed, arrived.sound.room, length-append h.entries (Arrival conn channel raw reply ∷ []))

    -- an accepted message gets a number above those of all rows
    pub arrived-next : (id : List ℕ) (v : Verdict) (g : Addition) → IsAddition reply id v g → HasRoomFor g rows
    arrived-next id v g is = gain-next reply id v g (message_count h) rows is arrived.numbered (next-row h rows kept.rows_agree)

    -- no key is added: it is known as before
    keys-same : is_kept reply ≡ false → KeysAgree (followed_by h (Arrival conn channel raw reply)) index
    keys-same none key =
        kept.keys_agree key ∙ sym (arrived.known key ∙ (ap (λ b. option_map_or (λ place. Some place) (known h key) (cond (b && bytes_eq key (key_of channel raw)) (Some (next_place h)) None)) none ∙ place-either (known h key)))

    -- its key is added
    keys-more : is_kept reply ≡ true → KeysAgree (followed_by h (Arrival conn channel raw reply)) (index ++ record { key = key_of channel raw; place = next_place h } ∷ [])
    keys-more keeps key =
        place_of-added index (key_of channel raw) key (next_place h) (kept.keys_agree (key_of channel raw) ∙ unknown)
        ∙ (ap (λ o. cond (bytes_eq key (key_of channel raw)) (Some (next_place h)) o) (kept.keys_agree key)
        ∙ sym (arrived.known key ∙ (ap (λ b. option_map_or (λ place. Some place) (known h key) (cond (b && bytes_eq key (key_of channel raw)) (Some (next_place h)) None)) keeps ∙ either (bytes_eq key (key_of channel raw)) refl)))
      where
        unknown : known h (key_of channel raw) ≡ None
        unknown = told-unknown h channel raw reply answered keeps

        either : (b : Bool) → bytes_eq key (key_of channel raw) ≡ b → option_map_or (λ place. Some place) (known h key) (cond b (Some (next_place h)) None) ≡ cond b (Some (next_place h)) (known h key)
        either true same = ap (λ o. option_map_or (λ place. Some place) o (Some (next_place h))) (ap (known h) (same-bytes key (key_of channel raw) same) ∙ unknown)
        either false other = place-either (known h key)

    -- the keys agree, whether one was added or not
    pub keys-arrived : (looked : List ℕ) (keeps : Bool) (place : ℕ) (new : List Known) → keeps ≡ is_kept reply → looked ≡ key_of channel raw → place ≡ next_place h
        → (keeps ≡ true → new ≡ index ++ record { key = looked; place = place } ∷ []) → (keeps ≡ false → new ≡ index)
        → KeysAgree (followed_by h (Arrival conn channel raw reply)) new
    keys-arrived looked true place new kept-is key here added same =
        subst (KeysAgree (followed_by h (Arrival conn channel raw reply))) (sym (added refl ∙ λ i. index ++ record { key = key i; place = here i } ∷ [])) (keys-more (sym kept-is))
    keys-arrived looked false place new kept-is key here added same = subst (KeysAgree (followed_by h (Arrival conn channel raw reply))) (sym (same refl)) (keys-same (sym kept-is))

    -- the book is kept
    pub kept-arrived : (g : Addition) (rows' : List (Row (Queued Outbound))) (index' : List Known) (tally' : Statistics) (room' : ℕ) → channel < 64
        → IsAddition reply (control_id_of raw) (decided (plan_in_force h) channel raw) g → AddsGain channel raw g rows rows'
        → KeysAgree (followed_by h (Arrival conn channel raw reply)) index'
        → CountsArrival channel reply (slots_added (plan_in_force h) channel raw reply) tally tally'
        → flights ≤ room' → IsKept (followed_by h (Arrival conn channel raw reply)) rows' index' tally' flights room'
    kept-arrived g rows' index' tally' room' few is adds keys counts left = record {
      sound = arrived.sound;
      rows_agree = rows-arrived h conn channel raw reply g kept.sound arrived rows rows' kept.rows_agree is adds;
      keys_agree = keys;
      are_counted = counted-arrival h conn channel raw reply tally tally' kept.sound arrived few kept.are_counted counts;
      flights_are = kept.flights_are ∙ sym arrived.in_flight;
      reserved = omega (arith, arrived.in_flight, kept.flights_are);
      bound = kept.bound;
    }
