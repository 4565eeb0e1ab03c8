-- How rows follow an arrival.
use Rattle.std.proofs.Common.{◌≡◌, ℕ, ◌+◌, ◌<◌, ◌≤◌, Bool, true, false, cond, ◌==◌, List, [], ◌∷◌, ◌++◌, None, Some, refl, sym, ◌∙◌, ap, subst, arith, suc, zero}
use Rattle.std.specs.List.{AllByRecursion, range_with_len}
use Rattle.std.specs.Prelude.{All, filter, is_some}
use Rattle.std.specs.Option.{option_map_or}
use Rattle.std.specs.Int.{bit_at}
use Rattle.std.proofs.lemmas.List.Elements.{All-from_recursion}
use Rattle.judge_core.specs.Delivering.{destinations_of}
use Rattle.judge_core.specs.declared.delivery.Delivery.{Delivery}
use Rattle.judge_core.specs.Judging.{deliveries_of, verdict as decided}
use Rattle.row_store.specs.declared.Row.{Row}
use Rattle.row_store.specs.Rows.{row_numbers as numbers_of}
use Rattle.dest_queue.specs.declared.SlotState.TheVariants.{Waiting}
use Rattle.dest_queue.specs.declared.slots.Queued.{Queued}
use Rattle.dest_queue.specs.inner.SlotsBy.{slots_by}
use Rattle.dest_queue.specs.States.{is_live}
use Rattle.event_log.specs.declared.entry.Told.{Told}
use Rattle.event_log.specs.declared.entry.Told.TheVariants as told
use Rattle.event_log.specs.declared.entry.Entry.TheVariants.{Arrival}
use Rattle.event_log.specs.History.{History, Accepted, accepted, accepted_under, control_id_of, followed_by, message_at, message_count, names, plan_in_force, state}
use Rattle.event_log.specs.inner.Legal.{IsSound}
use Rattle.event_log.proofs.Following.{funext, message-newest, message-older, message-same, remaining-longer, remaining-same}
use Rattle.event_log.proofs.Steps.{ArrivalStep}
use Rattle.book_core.specs.declared.letter.Outbound.{Outbound}
use Rattle.book_core.specs.inner.Parts.{IsAsTold, RowsAgree}
use Rattle.book_core.specs.declared.arrival.Addition.{Addition}
use Rattle.book_core.specs.declared.arrival.Addition.TheVariants as gain
use Rattle.book_core.specs.inner.Sending.{AddsGain, AddsRow, IsAddition}
use Rattle.book_core.proofs.Rows.{all-weaker}
use Rattle.book_core.proofs.RowSteps.{same-row}

append-nil : {A : Type 0} (xs : List A) → xs ++ [] ≡ xs
append-nil [] = refl
append-nil (x ∷ xs) = ap (λ ys. x ∷ ys) (append-nil xs)

-- what holds of each number of rows holds of the number of each row
numbers-each : {T : Type 0} (P : ℕ → Type 0) (rows : List (Row T)) → AllByRecursion P (numbers_of rows) → AllByRecursion (λ row. P row.number) rows
numbers-each P [] all = tt
numbers-each P (row ∷ rows) all = (all.0, numbers-each P rows all.1)

-- numbers of a range are below its end, also where a test leaves some out
filter-below : (p : ℕ → Bool) (a k b : ℕ) → a + k ≤ b → AllByRecursion (λ n. n < b) (filter p (range_with_len a k))
filter-below p a zero b fits = tt
filter-below p a (suc k) b fits =
    let rest = filter-below p (a + 1) k b (omega arith) in
    elim (p a) as (λ t. AllByRecursion (λ n. n < b) (cond t (a ∷ filter p (range_with_len (a + 1) k)) (filter p (range_with_len (a + 1) k)))) [ true ↦ (omega arith, rest) | false ↦ rest ]

-- the numbers of the rows are those of messages that came
pub numbers-below : (h : History) (rows : List (Row (Queued Outbound))) → RowsAgree h rows → AllByRecursion (λ row. row.number < message_count h) rows
numbers-below h rows agree =
    numbers-each (λ n. n < message_count h) rows
    (subst (AllByRecursion (λ n. n < message_count h)) (sym agree.each_once) (filter-below (λ n. is_some (message_at h n)) 0 (message_count h) (message_count h) (omega arith)))

-- so a further message has the next number
pub next-row : (h : History) (rows : List (Row (Queued Outbound))) → RowsAgree h rows → All (λ row. row.number < message_count h) rows
next-row h rows agree = All-from_recursion (λ row. row.number < message_count h) rows (numbers-below h rows agree)

all-both : {A : Type 0} (P Q R : A → Type 0) → ((x : A) → P x → Q x → R x) → (xs : List A) → AllByRecursion P xs → AllByRecursion Q xs → AllByRecursion R xs
all-both P Q R w [] p q = tt
all-both P Q R w (x ∷ xs) p q = (w x p.0 q.0, all-both P Q R w xs p.1 q.1)

all-push : {A : Type 0} (P : A → Type 0) (xs : List A) (x : A) → AllByRecursion P xs → P x → AllByRecursion P (xs ++ x ∷ [])
all-push P [] x all p = (p, tt)
all-push P (y ∷ xs) x all p = (all.0, all-push P xs x all.1 p)

numbers-push : {T : Type 0} (rows : List (Row T)) (row : Row T) → numbers_of (rows ++ row ∷ []) ≡ numbers_of rows ++ row.number ∷ []
numbers-push [] row = refl
numbers-push (r ∷ rows) row = ap (λ ns. r.number ∷ ns) (numbers-push rows row)

-- a slot that waits for its first attempt is queued where it is named
queued-first : (b : Bool) → b ≡ option_map_or is_live (cond b (Some (Waiting 0 0)) None) false
queued-first true = refl
queued-first false = refl

-- the rows of a history with no message more
pub rows-kept : (h g : History) → g.opening ≡ h.opening → accepted g ≡ accepted h → ((n d : ℕ) → state g n d ≡ state h n d) → (rows : List (Row (Queued Outbound))) → RowsAgree h rows → RowsAgree g rows
rows-kept h g opening messages states rows agree = record {
  each_once = agree.each_once ∙ sym (remaining-same h g opening messages);
  as_told = all-weaker (IsAsTold h) (IsAsTold g) (λ row told. same-row h g row (message-same h g opening messages row.number) (states row.number) told) rows agree.as_told;
}

-- the rows of a history with one message more
module _ (h g : History) (opening : g.opening ≡ h.opening) (message : Accepted) (messages : accepted g ≡ accepted h ++ message ∷ []) (states : (n d : ℕ) → state g n d ≡ state h n d)
    (to_come : (n d : ℕ) → message_count h ≤ n → state h n d ≡ Waiting 0 0) where
  new-message : message_at g (message_count h) ≡ Some message
  new-message = message-newest h g opening message messages

  new-row : (place mask : ℕ) → ((d : ℕ) → d < 32 → (bit_at mask d == 1) ≡ names d message.deliveries)
      → IsAsTold g (record { number = message_count h; item = record { content = record { place = place; channel = message.channel; raw = message.raw; control_id = control_id_of message.raw; deliveries = message.deliveries }; slots = slots_by (λ _. Waiting 0 0) (destinations_of message.deliveries) }; mask = mask })
  new-row place mask stands = record {
    slots = ap (λ states. slots_by states (destinations_of message.deliveries)) (funext _ _ (λ d. sym (states (message_count h) d ∙ to_come (message_count h) d (omega arith))))
        ∙ ap (λ m. slots_by (state g (message_count h)) (destinations_of (option_map_or (λ m. m.deliveries) m []))) (sym new-message);
    queues = λ d within. stands d within ∙ (queued-first (names d message.deliveries)
        ∙ (ap (λ s. option_map_or is_live (cond (names d message.deliveries) (Some s) None) false) (sym (states (message_count h) d ∙ to_come (message_count h) d (omega arith)))
        ∙ ap (λ m. option_map_or is_live (cond (names d (option_map_or (λ m. m.deliveries) m [])) (Some (state g (message_count h) d)) None) false) (sym new-message)));
    control_id = ap (λ m. option_map_or (λ m. control_id_of m.raw) m []) (sym new-message);
    deliveries = ap (λ m. option_map_or (λ m. m.deliveries) m []) (sym new-message);
    came = new-message;
  }

  pub rows-added : (old new : List (Row (Queued Outbound))) → RowsAgree h old → AddsRow (message_count h) message.channel message.raw (control_id_of message.raw) message.deliveries old new → RowsAgree g new
  rows-added old new agree adds = rw adds.added (record {
    each_once = numbers-push old _ ∙ (ap (λ ns. ns ++ message_count h ∷ []) agree.each_once ∙ sym (remaining-longer h g opening message messages));
    as_told = all-push (IsAsTold g) old _
        (all-both (λ row. row.number < message_count h) (IsAsTold h) (IsAsTold g)
        (λ row below told. same-row h g row (message-older h g opening message messages row.number (λ same. omega arith)) (states row.number) told)
        old (numbers-below h old agree) agree.as_told)
        (new-row adds.place adds.mask adds.stands);
  })

-- the rows of a message that is accepted
rows-accepted : (h : History) (conn channel number : ℕ) (raw : List ℕ) → IsSound h → ArrivalStep h conn channel raw (told.Accepted number) → (n : ℕ) (id : List ℕ) (deliveries : List Delivery) (old new : List (Row (Queued Outbound)))
    → n ≡ number → id ≡ control_id_of raw → deliveries ≡ deliveries_of (decided (plan_in_force h) channel raw)
    → RowsAgree h old → AddsRow n channel raw id deliveries old new → RowsAgree (followed_by h (Arrival conn channel raw (told.Accepted number))) new
rows-accepted h conn channel number raw sound step n id deliveries old new number-is id-is goes agree adds =
    rows-added h (followed_by h (Arrival conn channel raw (told.Accepted number))) refl (accepted_under (plan_in_force h) channel raw) step.accepted step.state sound.to_come old new agree
    (rw (number-is, id-is, goes, step.numbered) at adds)

-- the rows of a message that isn't
rows-unchanged : (h : History) (conn channel : ℕ) (raw : List ℕ) (reply : Told) (old new : List (Row (Queued Outbound))) → accepted (followed_by h (Arrival conn channel raw reply)) ≡ accepted h
    → ((n d : ℕ) → state (followed_by h (Arrival conn channel raw reply)) n d ≡ state h n d) → RowsAgree h old → new ≡ old → RowsAgree (followed_by h (Arrival conn channel raw reply)) new
rows-unchanged h conn channel raw reply old new messages states agree same = rw same (rows-kept h (followed_by h (Arrival conn channel raw reply)) refl messages states old agree)

-- the rows follow an arrival
pub rows-arrived : (h : History) (conn channel : ℕ) (raw : List ℕ) (reply : Told) (g : Addition) → IsSound h → ArrivalStep h conn channel raw reply → (old new : List (Row (Queued Outbound))) → RowsAgree h old
    → IsAddition reply (control_id_of raw) (decided (plan_in_force h) channel raw) g → AddsGain channel raw g old new → RowsAgree (followed_by h (Arrival conn channel raw reply)) new
rows-arrived h conn channel raw (told.Accepted number) (gain.Message n c ds) sound step old new agree is adds =
    rows-accepted h conn channel number raw sound step n c.now.control_id ds.now old new is.0 is.1 is.2 agree adds
rows-arrived h conn channel raw (told.Accepted number) gain.Key sound step old new agree is adds = absurd is
rows-arrived h conn channel raw (told.Accepted number) gain.Nothing sound step old new agree is adds = absurd is
rows-arrived h conn channel raw told.Filtered (gain.Message n c ds) sound step old new agree is adds = absurd is
rows-arrived h conn channel raw told.Filtered gain.Key sound step old new agree is adds = rows-unchanged h conn channel raw told.Filtered old new (step.accepted ∙ append-nil (accepted h)) step.state agree adds
rows-arrived h conn channel raw told.Filtered gain.Nothing sound step old new agree is adds = absurd is
rows-arrived h conn channel raw (told.Refused cause) (gain.Message n c ds) sound step old new agree is adds = absurd is
rows-arrived h conn channel raw (told.Refused cause) gain.Key sound step old new agree is adds = absurd is
rows-arrived h conn channel raw (told.Refused cause) gain.Nothing sound step old new agree is adds = rows-unchanged h conn channel raw (told.Refused cause) old new (step.accepted ∙ append-nil (accepted h)) step.state agree adds
rows-arrived h conn channel raw (told.Repeat place) (gain.Message n c ds) sound step old new agree is adds = absurd is
rows-arrived h conn channel raw (told.Repeat place) gain.Key sound step old new agree is adds = absurd is
rows-arrived h conn channel raw (told.Repeat place) gain.Nothing sound step old new agree is adds = rows-unchanged h conn channel raw (told.Repeat place) old new (step.accepted ∙ append-nil (accepted h)) step.state agree adds
