-- How rows follow a cancellation.
use Rattle.std.proofs.Common.{◌≡◌, ◌≢◌, ℕ, ◌<◌, Bool, true, false, cond, not, ◌==◌, ◌&&◌, ◌||◌, inl, inr, List, [], ◌∷◌, None, Some, refl, sym, ◌∙◌, ap}
use Rattle.std.specs.Option.{option_map_or}
use Rattle.std.specs.Int.{bit_at}
use Rattle.std.proofs.lemmas.Bool.Decides.{eqb_tells}
use Rattle.judge_core.specs.Delivering.{destinations_of}
use Rattle.row_store.specs.declared.Row.{Row}
use Rattle.row_store.specs.Rows.{is_in_queue}
use Rattle.row_store.specs.inner.Rows.{changed_at}
use Rattle.dest_queue.specs.declared.SlotState.{SlotState}
use Rattle.dest_queue.specs.declared.SlotState.TheVariants.{Waiting, InFlight, Delivered, Failed}
use Rattle.dest_queue.specs.declared.FailCause.TheVariants.{Cancelled}
use Rattle.dest_queue.specs.declared.slots.Queued.{Queued}
use Rattle.dest_queue.specs.inner.Queues.{cancel}
use Rattle.dest_queue.specs.inner.Slots.{has_bit, waits_at}
use Rattle.dest_queue.specs.inner.SlotsBy.{is_among, slots_by}
use Rattle.dest_queue.specs.States.{is_live, is_waiting}
use Rattle.dest_queue.proofs.SlotLaws.{cancelled-slots_by, left-waiting_at, waits_at-slots_by}
use Rattle.event_log.specs.History.{History, accepted, control_id_of, deliveries, is_queued, names, state}
use Rattle.event_log.specs.inner.History.{named}
use Rattle.event_log.specs.Answers.{waits_among}
use Rattle.event_log.proofs.Following.{deliveries-same, message-same, remaining-same}
use Rattle.book_core.specs.declared.letter.Outbound.{Outbound}
use Rattle.book_core.specs.inner.Parts.{IsAsTold, RowsAgree}
use Rattle.book_core.proofs.Rows.{among-named, rows-changed}
use Rattle.book_core.proofs.RowSteps.{same-row}

-- slots whose states agree at each of their destinations are equal
slots_by-same : (f g : ℕ → SlotState) (ds : List ℕ) → ((e : ℕ) → is_among e ds ≡ true → f e ≡ g e) → slots_by f ds ≡ slots_by g ds
slots_by-same f g [] same = refl
slots_by-same f g (d ∷ ds) same =
    let here : f d ≡ g d = same d (elim (eqb_tells d d) [ inl w ↦ rw w.0 refl | inr w ↦ absurd (w.1 refl) ]) in
    rw here (ap (λ slots. record { destination = d; state = g d } ∷ slots) (slots_by-same f g ds (λ e among. same e (rw among (either (d == e))))))
  where
    either : (b : Bool) → (b || true) ≡ true
    either true = refl
    either false = refl

-- a message that waits at d names d
waits-is : (a b : Bool) (s : SlotState) → (a && option_map_or is_waiting (cond b (Some s) None) false) ≡ (b && (a && is_waiting s))
waits-is true true s = refl
waits-is true false s = refl
waits-is false true s = refl
waits-is false false s = refl

-- a slot that waited at one of the destinations has left the queue, and any other stays
left-is : (a b : Bool) (s : SlotState) → (option_map_or is_live (cond b (Some s) None) false && not (a && (b && is_waiting s))) ≡ option_map_or is_live (cond b (Some (cond (b && (a && is_waiting s)) (Failed Cancelled) s)) None) false
left-is a false s = refl
left-is true true (Waiting attempts due) = refl
left-is true true (InFlight attempt) = refl
left-is true true Delivered = refl
left-is true true (Failed cause) = refl
left-is false true (Waiting attempts due) = refl
left-is false true (InFlight attempt) = refl
left-is false true Delivered = refl
left-is false true (Failed cause) = refl

module _ (h g : History) (opening : g.opening ≡ h.opening) (n among mask : ℕ) (messages : accepted g ≡ accepted h)
    (states : (m e : ℕ) → state g m e ≡ cond ((n == m) && (bit_at mask e == 1)) (Failed Cancelled) (state h m e)) (bits : (e : ℕ) → (bit_at mask e == 1) ≡ waits_among h n among e) where
  goes : (m : ℕ) → deliveries g m ≡ deliveries h m
  goes m = deliveries-same h g opening messages m

  elsewhere : (row : Row (Queued Outbound)) → row.number ≢ n → IsAsTold h row → IsAsTold g row
  elsewhere row differs told = same-row h g row (message-same h g opening messages row.number)
      (λ e. states row.number e ∙ elim (eqb_tells n row.number) [ inl w ↦ absurd (differs (sym w.1)) | inr w ↦ rw w.0 refl ]) told

  state-now : (e : ℕ) → state g n e ≡ cond (names e (deliveries h n) && (has_bit among e && is_waiting (state h n e))) (Failed Cancelled) (state h n e)
  state-now e = states n e ∙ (elim (eqb_tells n n) [ inl w ↦ rw w.0 refl | inr w ↦ absurd (w.1 refl) ]
      ∙ ap (λ b. cond b (Failed Cancelled) (state h n e)) (bits e ∙ waits-is (has_bit among e) (names e (deliveries h n)) (state h n e)))

  here : (row : Row (Queued Outbound)) → row.number ≡ n → IsAsTold h row → IsAsTold g (cancel (has_bit among) row)
  here row same told = record {
    slots = rw told.slots (cancelled-slots_by (has_bit among) (state h row.number) (named h row.number)
        ∙ rw same (slots_by-same _ _ (named h n) (λ e inside. sym (state-now e ∙ ap (λ b. cond (b && (has_bit among e && is_waiting (state h n e))) (Failed Cancelled) (state h n e)) (sym (among-named e (deliveries h n)) ∙ inside)))
        ∙ ap (λ ds. slots_by (state g n) (destinations_of ds)) (sym (goes n))));
    queues = λ e within. left-waiting_at (has_bit among) row.item.slots row.mask e within ∙ (ap (λ b. b && not (has_bit among e && waits_at e row.item.slots)) (was e within) ∙ (ap (λ b. is_queued h e n && not (has_bit among e && b)) (waited e) ∙ (sym (queue-now e) ∙ ap (is_queued g e) (sym same))));
    control_id = told.control_id ∙ rw same (ap (λ m. option_map_or (λ m. control_id_of m.raw) m []) (sym (message-same h g opening messages n)));
    deliveries = told.deliveries ∙ rw same (sym (goes n));
    came = message-same h g opening messages row.number ∙ told.came;
  }
    where
      was : (e : ℕ) → e < 32 → is_in_queue e row ≡ is_queued h e n
      was e within = told.queues e within ∙ ap (is_queued h e) same

      waited : (e : ℕ) → waits_at e row.item.slots ≡ (names e (deliveries h n) && is_waiting (state h n e))
      waited e = ap (waits_at e) told.slots ∙ (waits_at-slots_by (state h row.number) (named h row.number) e
          ∙ rw same (ap (λ b. b && is_waiting (state h n e)) (among-named e (deliveries h n))))

      queue-now : (e : ℕ) → is_queued g e n ≡ (is_queued h e n && not (has_bit among e && (names e (deliveries h n) && is_waiting (state h n e))))
      queue-now e = ap (λ ds. option_map_or is_live (cond (names e ds) (Some (state g n e)) None) false) (goes n)
          ∙ (ap (λ s. option_map_or is_live (cond (names e (deliveries h n)) (Some s) None) false) (state-now e) ∙ sym (left-is (has_bit among e) (names e (deliveries h n)) (state h n e)))

  -- the rows follow
  pub rows-cancelled : (rows : List (Row (Queued Outbound))) → RowsAgree h rows → RowsAgree g (changed_at n (cancel (has_bit among)) rows)
  rows-cancelled rows agree =
      rows-changed h g n (cancel (has_bit among)) (λ row. refl) elsewhere here rows (remaining-same h g opening messages) agree
