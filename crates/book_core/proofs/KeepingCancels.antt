-- A book is kept by a cancellation.
use Rattle.std.proofs.Common.{◌≡◌, ◌≢◌, ℕ, ◌+◌, ◌-◌, ◌^◌, ◌<◌, ◌≤◌, Bool, true, false, ◌==◌, ◌&&◌, inl, inr, List, [], ◌∷◌, None, Some, Result, Ok, Err, refl, sym, ◌∙◌, ap, arith, length, length-append, suc, zero}
use Rattle.std.specs.List.{list_any}
use Rattle.std.specs.Prelude.{is_ok, is_some, if◌then◌else◌}
use Rattle.std.specs.Int.{bit_at}
use Rattle.std.proofs.lemmas.Bool.Decides.{nat_tests}
use Rattle.std.proofs.lemmas.Nat.Bits.{bit_at-lt, same_from_bits_below}
use Rattle.plan_text.specs.Entries.{PlanEntry}
use Rattle.row_store.specs.declared.Row.{Row}
use Rattle.row_store.specs.Rows.{item_at}
use Rattle.row_store.specs.inner.Rows.{changed_at}
use Rattle.dest_queue.specs.declared.slots.Queued.{Queued}
use Rattle.dest_queue.specs.inner.Queues.{cancel, waits_in}
use Rattle.dest_queue.specs.inner.Slots.{has_bit}
use Rattle.dest_queue.specs.Slots.{state_at}
use Rattle.dup_index.specs.inner.Known.{Known}
use Rattle.stat_count.specs.Statistics.{Statistics, destination_at}
use Rattle.event_log.specs.declared.entry.Entry.TheVariants.{Cancel}
use Rattle.event_log.specs.declared.refusal.CancelRefusal.{CancelRefusal}
use Rattle.event_log.specs.declared.refusal.CancelRefusal.TheVariants.{NoSuchMessage, NothingWaiting}
use Rattle.event_log.specs.History.{History, followed_by, message_at, numbers, plan_in_force, slot}
use Rattle.event_log.specs.Answers.{cancel_answer, mask_where, waits_among}
use Rattle.event_log.specs.Room.{owed}
use Rattle.event_log.proofs.Cancelling.{cancel-step}
use Rattle.event_log.proofs.Following.{funext}
use Rattle.event_log.proofs.Masks.{mask_where-below, mask_where-bits}
use Rattle.event_log.proofs.Steps.{CancelStep, waiting_owed}
use Rattle.book_core.specs.declared.letter.Outbound.{Outbound}
use Rattle.book_core.specs.inner.Counting.{CountsCancel}
use Rattle.book_core.specs.inner.Parts.{IsKept}
use Rattle.book_core.specs.inner.Sending.{owed_waiting}
use Rattle.book_core.proofs.CountedCancels.{cancel-waits, counted-cancel}
use Rattle.book_core.proofs.Rows.{among-kept, found-among, kept-slot, kept-waits, row-of}
use Rattle.book_core.proofs.RowsCancelled.{rows-cancelled}
use Rattle.book_core.proofs.Waiting.{owes-none, waits-nowhere}

-- the answer where there is no such message
answer-gone : (h : History) (n among : ℕ) → message_at h n ≡ None → cancel_answer h n among ≡ Err NoSuchMessage
answer-gone h n among gone = rw gone refl

-- the answer, by whether there is such a message and by the mask of where it waits
abbrev answer-by : Bool → ℕ → Result ℕ CancelRefusal
answer-by there mask = if there then (if mask == 0 then Err NothingWaiting else Ok mask) else Err NoSuchMessage

-- it is the mask where something waits
answer-some : (mask : ℕ) → mask ≢ 0 → is_ok (answer-by true mask) ≡ true
answer-some zero some = absurd (some refl)
answer-some (suc mask) some = let differs : (suc mask == 0) ≡ false = grind (arith, nat_tests) in rw differs refl

-- an answer that is no refusal is the mask
answer-ok : (there : Bool) (mask : ℕ) → is_ok (answer-by there mask) ≡ true → answer-by there mask ≡ Ok mask
answer-ok true zero ok = absurd cc
answer-ok true (suc mask) ok = let differs : (suc mask == 0) ≡ false = grind (arith, nat_tests) in rw differs refl
answer-ok false mask ok = absurd cc

-- two bits that are set alike are equal
same-bit : (a b : ℕ) → a < 2 → b < 2 → (a == 1) ≡ (b == 1) → a ≡ b
same-bit zero zero m n e = refl
same-bit zero (suc zero) m n e = absurd cc
same-bit (suc zero) zero m n e = absurd cc
same-bit (suc zero) (suc zero) m n e = refl
same-bit (suc (suc a)) b m n e = absurd (omega arith)
same-bit a (suc (suc b)) m n e = absurd (omega arith)

module _ (h : History) (rows : List (Row (Queued Outbound))) (index : List Known) (tally : Statistics) (flights room : ℕ) (kept : IsKept h rows index tally flights room) (number among : ℕ) where
  -- a number that has no row is no message's
  pub asked-none : item_at number rows ≡ None → cancel_answer h number among ≡ Err NoSuchMessage
  asked-none none = elim (row-of h rows kept.rows_agree number)
      [ inl w ↦ let found = w.3 in absurd cc | inr w ↦ answer-gone h number among w.1 ]

  module _ (message : Queued Outbound) (found : item_at number rows ≡ Some message) where
    -- a number that has a row is a message's
    asked-exists : is_some (message_at h number) ≡ true
    asked-exists = among-kept (λ n. is_some (message_at h n)) (numbers h) number (sym (ap (list_any (λ m. m == number)) kept.rows_agree.each_once) ∙ found-among number message rows found)

    -- its slots are as the history has them
    asked-slots : (λ d. state_at d message.slots) ≡ slot h number
    asked-slots = funext _ _ (λ d. rw found at (kept-slot h rows kept.rows_agree number d))

    module _ (plan : PlanEntry) (owes : ℕ) (in_force : plan ≡ plan_in_force h) (owes_is : owes ≡ owed_waiting plan among (λ d. state_at d message.slots)) where
      -- what the slots that wait there owe
      pub asked-owed : owes ≡ owed_waiting (plan_in_force h) among (slot h number)
      asked-owed = owes_is ∙ (ap (λ p. owed_waiting p among (λ d. state_at d message.slots)) in_force ∙ ap (owed_waiting (plan_in_force h) among) asked-slots)

      -- where they owe nothing, it waits at none of the destinations
      pub asked-nothing : owes ≡ 0 → cancel_answer h number among ≡ Err NothingWaiting
      asked-nothing none =
          ap (λ b. answer-by b (mask_where (waits_among h number among))) asked-exists
          ∙ ap (answer-by true) (waits-nowhere (plan_in_force h) among (slot h number) (sym asked-owed ∙ none))

      -- where they owe something, it waits at one of them
      pub asked-some : owes ≢ 0 → is_ok (cancel_answer h number among) ≡ true
      asked-some some =
          ap (λ b. is_ok (answer-by b (mask_where (waits_among h number among)))) asked-exists
          ∙ answer-some (mask_where (waits_among h number among)) (λ none. some (asked-owed ∙ owes-none (plan_in_force h) among (slot h number) none))

  module _ (waits_some : is_ok (cancel_answer h number among) ≡ true) where
    -- a message that waits somewhere has a row
    pub asked-row : item_at number rows ≢ None
    asked-row none = let gone = asked-none none in absurd cc

    module _ (mask : ℕ) (fits : mask < 2 ^ 32) (bits : (d : ℕ) → (bit_at mask d == 1) ≡ (has_bit among d && waits_in number d rows)) where
      -- a mask whose bits say where the row waits is the mask of its slots
      asked-mask : mask ≡ mask_where (waits_among h number among)
      asked-mask =
          same_from_bits_below 32 mask (mask_where (waits_among h number among)) fits (mask_where-below (waits_among h number among))
          (λ d below. same-bit (bit_at mask d) (bit_at (mask_where (waits_among h number among)) d) (bit_at-lt mask d) (bit_at-lt (mask_where (waits_among h number among)) d)
          (bits d ∙ (ap (λ b. has_bit among d && b) (kept-waits h rows kept.rows_agree number d) ∙ sym (mask_where-bits (waits_among h number among) d below))))

      -- it is the answer
      pub asked-cancel : cancel_answer h number among ≡ Ok mask
      asked-cancel = answer-ok (is_some (message_at h number)) (mask_where (waits_among h number among)) waits_some ∙ ap Ok (sym asked-mask)

      cancelled : CancelStep h number among mask
      cancelled = cancel-step h kept.sound number among mask asked-cancel

      -- a slot waits at each destination of the mask
      pub cancelled-waits : (d : ℕ) → d < 32 → (bit_at mask d == 1) ≡ true → 0 < (destination_at d tally).waiting
      cancelled-waits = cancel-waits h number among mask cancelled tally kept.are_counted

      -- the book is kept
      pub kept-cancelled : (tally' : Statistics) (room' : ℕ) → CountsCancel mask tally tally' → flights ≤ room'
          → IsKept (followed_by h (Cancel number among mask)) (changed_at number (cancel (has_bit among)) rows) index tally' flights room'
      kept-cancelled tally' room' counts left = record {
        sound = cancelled.sound;
        rows_agree = rows-cancelled h _ refl number among mask cancelled.nothing.accepted cancelled.state cancelled.bits rows kept.rows_agree;
        keys_agree = λ key. kept.keys_agree key ∙ sym (cancelled.nothing.known key);
        are_counted = counted-cancel h number among mask cancelled tally tally' kept.are_counted counts;
        flights_are = omega (arith, cancelled.in_flight, kept.flights_are);
        reserved = omega (arith, cancelled.in_flight, kept.flights_are);
        bound = kept.bound;
      }

      module _ (owes : ℕ) (owes_is : owes ≡ owed_waiting (plan_in_force h) among (slot h number)) where
        -- what the slots that wait owe
        owed-is : owes ≡ waiting_owed h number among
        owed-is = owes_is

        -- so much is owed
        pub cancelled-less : owes ≤ owed h
        cancelled-less = omega (arith, cancelled.owed, owed-is)

        -- it is owed no more
        pub cancelled-owed : owed h - owes ≡ owed (followed_by h (Cancel number among mask))
        cancelled-owed = omega (arith, cancelled.owed, owed-is)

        -- there is room for the entry
        pub cancelled-within : length h.entries + 1 + (owed h - owes) ≤ h.opening.events_max
        cancelled-within = omega (arith, cancelled-owed, cancelled.sound.room, length-append h.entries (Cancel number among mask ∷ []))
