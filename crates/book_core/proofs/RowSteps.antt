-- How rows follow an event.
use Rattle.std.proofs.Common.{◌≡◌, ◌≢◌, ℕ, ◌<◌, true, false, cond, ◌==◌, ◌&&◌, inl, inr, List, [], None, Some, refl, sym, ◌∙◌, ap}
use Rattle.std.specs.Option.{option_map_or}
use Rattle.std.specs.Int.{bit_at}
use Rattle.std.proofs.lemmas.Bool.Decides.{eqb_tells}
use Rattle.judge_core.specs.Delivering.{destinations_of}
use Rattle.row_store.specs.declared.Row.{Row}
use Rattle.row_store.specs.Rows.{is_in_queue}
use Rattle.row_store.specs.inner.Rows.{changed_at, without}
use Rattle.row_store.proofs.Bits.{bit_at-without_same, bit_at-without_other}
use Rattle.dest_queue.specs.declared.SlotState.{SlotState}
use Rattle.dest_queue.specs.declared.slots.Queued.{Queued}
use Rattle.dest_queue.specs.inner.Queues.{settle}
use Rattle.dest_queue.specs.inner.SlotsBy.{slots_by}
use Rattle.dest_queue.specs.States.{is_live}
use Rattle.dest_queue.proofs.SlotLaws.{with_state-slots_by}
use Rattle.event_log.specs.History.{History, accepted, control_id_of, deliveries, is_queued, message_at, names, state}
use Rattle.event_log.specs.inner.History.{named}
use Rattle.event_log.proofs.Following.{deliveries-same, funext, message-same, remaining-same}
use Rattle.book_core.specs.declared.letter.Outbound.{Outbound}
use Rattle.book_core.specs.inner.Parts.{IsAsTold, RowsAgree}
use Rattle.book_core.proofs.Rows.{rows-changed}

-- a row whose message and states are as before is as it was told
pub same-row : (h g : History) (row : Row (Queued Outbound)) → message_at g row.number ≡ message_at h row.number → ((d : ℕ) → state g row.number d ≡ state h row.number d) → IsAsTold h row → IsAsTold g row
same-row h g row message states told =
    let goes : deliveries g row.number ≡ deliveries h row.number = ap (λ m. option_map_or (λ m. m.deliveries) m []) message in record {
      slots = told.slots ∙ (ap (λ states. slots_by states (named h row.number)) (funext _ _ (λ d. sym (states d))) ∙ ap (λ ds. slots_by (state g row.number) (destinations_of ds)) (sym goes));
      queues = λ d within. told.queues d within ∙ (ap (λ s. option_map_or is_live (cond (names d (deliveries h row.number)) (Some s) None) false) (sym (states d)) ∙ ap (λ ds. option_map_or is_live (cond (names d ds) (Some (state g row.number d)) None) false) (sym goes));
      control_id = told.control_id ∙ ap (λ m. option_map_or (λ m. control_id_of m.raw) m []) (sym message);
      deliveries = told.deliveries ∙ sym goes;
      came = message ∙ told.came;
    }

-- an entry that changes the state of message n at d alone
module _ (h g : History) (opening : g.opening ≡ h.opening) (n d : ℕ) (after : SlotState) (messages : accepted g ≡ accepted h)
    (states : (m e : ℕ) → state g m e ≡ cond ((n == m) && (d == e)) after (state h m e)) where
  goes : (m : ℕ) → deliveries g m ≡ deliveries h m
  goes m = deliveries-same h g opening messages m

  elsewhere : (row : Row (Queued Outbound)) → row.number ≢ n → IsAsTold h row → IsAsTold g row
  elsewhere row differs told = same-row h g row (message-same h g opening messages row.number)
      (λ e. states row.number e ∙ elim (eqb_tells n row.number) [ inl w ↦ absurd (differs (sym w.1)) | inr w ↦ rw w.0 refl ]) told

  -- the state at another destination stays
  state-there : (e : ℕ) → e ≢ d → state g n e ≡ state h n e
  state-there e differs = states n e ∙ elim (eqb_tells d e) [ inl w ↦ absurd (differs (sym w.1)) | inr w ↦ rw w.0 (elim (n == n) as (λ b. cond (b && false) after (state h n e) ≡ state h n e) [ true ↦ refl | false ↦ refl ]) ]

  state-here : state g n d ≡ after
  state-here = states n d ∙ elim (eqb_tells n n) [ inl w ↦ rw w.0 (elim (eqb_tells d d) [ inl v ↦ rw v.0 refl | inr v ↦ absurd (v.1 refl) ]) | inr w ↦ absurd (w.1 refl) ]

  states-now : (e : ℕ) → cond (e == d) after (state h n e) ≡ state g n e
  states-now e = elim (eqb_tells e d) [ inl w ↦ rw w.0 (sym state-here ∙ ap (state g n) (sym w.1)) | inr w ↦ rw w.0 (sym (state-there e w.1)) ]

  -- the row is as settled: live states keep it in the queue, others take it out
  here : names d (deliveries h n) ≡ true → is_live (state h n d) ≡ true → (row : Row (Queued Outbound)) → row.number ≡ n → IsAsTold h row → IsAsTold g (settle d after row)
  here named-it lived row same told = record {
    slots = rw told.slots (with_state-slots_by (state h row.number) (named h row.number) d after
        ∙ rw same (ap (λ states. slots_by states (named h n)) (funext _ _ states-now) ∙ ap (λ ds. slots_by (state g n) (destinations_of ds)) (sym (goes n))));
    queues = λ e within. rw same (queue-now e within);
    control_id = told.control_id ∙ rw same (ap (λ m. option_map_or (λ m. control_id_of m.raw) m []) (sym (message-same h g opening messages n)));
    deliveries = told.deliveries ∙ rw same (sym (goes n));
    came = message-same h g opening messages row.number ∙ told.came;
  }
    where
      was : (e : ℕ) → e < 32 → is_in_queue e row ≡ is_queued h e n
      was e within = told.queues e within ∙ ap (is_queued h e) same

      queued : (e : ℕ) → is_queued g e n ≡ option_map_or is_live (cond (names e (deliveries h n)) (Some (state g n e)) None) false
      queued e = ap (λ ds. option_map_or is_live (cond (names e ds) (Some (state g n e)) None) false) (goes n)

      queue-there : (e : ℕ) → e ≢ d → is_queued h e n ≡ is_queued g e n
      queue-there e differs = sym (queued e ∙ ap (λ s. option_map_or is_live (cond (names e (deliveries h n)) (Some s) None) false) (state-there e differs))

      queue-here : is_queued g d n ≡ is_live after
      queue-here = queued d ∙ rw (named-it, state-here) refl

      queue-before : is_queued h d n ≡ true
      queue-before = rw (named-it, lived) refl

      queue-now : (e : ℕ) → e < 32 → is_in_queue e (settle d after row) ≡ is_queued g e n
      queue-now e within = elim (is_live after) as (λ b. is_live after ≡ b → (bit_at (cond b row.mask (without d row.mask)) e == 1) ≡ is_queued g e n) [
        | true ↦ λ live. was e within ∙ elim (eqb_tells e d) [
          | inl w ↦ rw w.1 (queue-before ∙ sym (queue-here ∙ live))
          | inr w ↦ queue-there e w.1
        ]
        | false ↦ λ gone. elim (eqb_tells e d) [
          | inl w ↦ rw w.1 (ap (λ b. b == 1) (bit_at-without_same row.mask d) ∙ sym (queue-here ∙ gone))
          | inr w ↦ ap (λ b. b == 1) (bit_at-without_other row.mask d e w.1) ∙ (was e within ∙ queue-there e w.1)
        ]
      ] refl

  -- the rows follow
  pub rows-settled : names d (deliveries h n) ≡ true → is_live (state h n d) ≡ true → (rows : List (Row (Queued Outbound))) → RowsAgree h rows → RowsAgree g (changed_at n (settle d after) rows)
  rows-settled named-it lived rows agree =
      rows-changed h g n (settle d after) (λ row. refl) elsewhere (here named-it lived) rows (remaining-same h g opening messages) agree
