-- What was encoded is decoded again.
use Rattle.std.proofs.Common.{◌≡◌, ℕ, suc, ◌^◌, ◌<◌, true, false, not, Bool, ◌&&◌, ◌==◌, List, [], ◌∷◌, ◌++◌, length, Ok, refl, sym, ap, ◌∙◌, append_assoc, arith, rules}
use Rattle.std.specs.Str.{bytes_eq}
use Rattle.std.specs.List.{AllByRecursion, flat_map}
use Rattle.std.specs.Int.{w32, w64, to_be_bytes}
use Rattle.std.proofs.lemmas.Bool.{and_from, eq-eqb, lt-ltb}
use Rattle.std.proofs.lemmas.List.{append-nil}
use Rattle.judge_core.specs.declared.delivery.Delivery.{Delivery}
use Rattle.dest_queue.specs.declared.SlotState.{SlotState}
use Rattle.dest_queue.specs.declared.SlotState.TheVariants.{Waiting, InFlight, Delivered, Failed}
use Rattle.dest_queue.specs.declared.FailCause.{FailCause}
use Rattle.dest_queue.specs.declared.FailCause.TheVariants.{Rejected, Exhausted, Cancelled}
use Rattle.dest_queue.specs.declared.slots.Slot.{Slot}
use Rattle.stat_count.specs.declared.ChannelCounts.{ChannelCounts}
use Rattle.stat_count.specs.declared.DestinationCounts.{DestinationCounts}
use Rattle.event_log.specs.declared.entry.Told.{Told}
use Rattle.event_log.specs.History.{Remembered}
use Rattle.event_log.proofs.Owing.{few-deliveries}
use Rattle.event_records.specs.inner.Fields.{told_kind, told_number}
use Rattle.event_records.specs.inner.Encoding.{text_bytes}
use Rattle.event_records.specs.inner.Decoding.{◌>>=◌}
use Rattle.event_records.proofs.Fields.{wide32, wide64, number_again, text_again}
use Rattle.event_records.proofs.Back.{told_again}
use Rattle.event_records.proofs.Only.{same_bytes}
use Rattle.opening_records.specs.declared.head.Head.{Head}
use Rattle.opening_records.specs.inner.Encoding.{Written, arrival_bytes, cause_number, channel_bytes, channel_numbers, delivery_bytes, destination_bytes, destination_numbers, flag_of, head_bytes, opening_bytes, own_text, remembered_bytes, several, slot_bytes, state_due, state_kind, state_number}
use Rattle.opening_records.specs.inner.Openings.{AreWide, Fits, IsDeliveryOf, IsHead, IsRemembered, IsSlot}
use Rattle.opening_records.specs.inner.Decoding.{answer_of, are_deliveries, byte_at, cause_at, channel_at, deliveries_at, delivery_at, destination_at, head_at, is_slot, numbers_at, opening_at, opening_in, payload_of, remembered_at, several_at, slot_at, slot_of, state_of, tested}
use Rattle.opening_records.proofs.Deliveries.{good_deliveries}
use Rattle.opening_records.proofs.Lists.{several_again}

-- ---- counters

pub channel_again : (c : ChannelCounts) (rest : List ℕ) → AreWide (channel_numbers c) → channel_at (channel_bytes c ++ rest) ≡ Ok (c, rest)
unfolding channel_at channel_bytes
channel_again c rest wide =
    rw (
      number_again w64 (2 ^ 64) wide64 c.received (to_be_bytes w64 c.filtered ++ to_be_bytes w64 c.accepted ++ to_be_bytes w64 c.refused ++ to_be_bytes w64 c.repeats ++ rest) wide.0,
      number_again w64 (2 ^ 64) wide64 c.filtered (to_be_bytes w64 c.accepted ++ to_be_bytes w64 c.refused ++ to_be_bytes w64 c.repeats ++ rest) wide.1.0,
      number_again w64 (2 ^ 64) wide64 c.accepted (to_be_bytes w64 c.refused ++ to_be_bytes w64 c.repeats ++ rest) wide.1.1.0,
      number_again w64 (2 ^ 64) wide64 c.refused (to_be_bytes w64 c.repeats ++ rest) wide.1.1.1.0,
      number_again w64 (2 ^ 64) wide64 c.repeats rest wide.1.1.1.1.0,
    ) refl

pub destination_again : (c : DestinationCounts) (rest : List ℕ) → AreWide (destination_numbers c) → destination_at (destination_bytes c ++ rest) ≡ Ok (c, rest)
unfolding destination_at destination_bytes
destination_again c rest wide =
    rw (
      number_again w64 (2 ^ 64) wide64 c.waiting (to_be_bytes w64 c.inflight ++ to_be_bytes w64 c.delivered ++ to_be_bytes w64 c.failed ++ to_be_bytes w64 c.attempts ++ rest) wide.0,
      number_again w64 (2 ^ 64) wide64 c.inflight (to_be_bytes w64 c.delivered ++ to_be_bytes w64 c.failed ++ to_be_bytes w64 c.attempts ++ rest) wide.1.0,
      number_again w64 (2 ^ 64) wide64 c.delivered (to_be_bytes w64 c.failed ++ to_be_bytes w64 c.attempts ++ rest) wide.1.1.0,
      number_again w64 (2 ^ 64) wide64 c.failed (to_be_bytes w64 c.attempts ++ rest) wide.1.1.1.0,
      number_again w64 (2 ^ 64) wide64 c.attempts rest wide.1.1.1.1.0,
    ) refl

-- ---- a slot

cause_again : (c : FailCause) → cause_at (cause_number c) ≡ Ok c
unfolding cause_at
cause_again Rejected = refl
cause_again Exhausted = refl
cause_again Cancelled = refl

state_again : (s : SlotState) → state_of (state_kind s) (state_number s) (state_due s) ≡ Ok s
unfolding state_of
state_again (Waiting attempts due) = refl
state_again (InFlight attempt) = refl
state_again Delivered = refl
state_again (Failed cause) = rw (cause_again cause) refl

slot_fields : (s : Slot) → s.destination < 32 → is_slot (state_kind s.state) (state_number s.state) (state_due s.state) s ≡ true
slot_fields s lt =
    and_from _ _ (and_from _ _ (and_from _ _ (lt-ltb _ _ lt) (eq-eqb (state_kind s.state) (state_kind s.state) refl)) (eq-eqb (state_number s.state) (state_number s.state) refl)) (eq-eqb (state_due s.state) (state_due s.state) refl)

slot_of_again : (s : Slot) → s.destination < 32 → slot_of s.destination (state_kind s.state) (state_number s.state) (state_due s.state) ≡ Ok s
unfolding slot_of
slot_of_again s lt = rw (state_again s.state, slot_fields s lt) refl

pub slot_again : (s : Slot) (rest : List ℕ) → IsSlot s → slot_at (slot_bytes s ++ rest) ≡ Ok (s, rest)
unfolding slot_at byte_at slot_bytes
slot_again s rest fits =
    let wide : s.destination < 2 ^ 32 = omega (arith, fits.destination) in
    rw (
      number_again w32 (2 ^ 32) wide32 s.destination (to_be_bytes w32 (state_number s.state) ++ to_be_bytes w64 (state_due s.state) ++ rest) wide,
      number_again w32 (2 ^ 32) wide32 (state_number s.state) (to_be_bytes w64 (state_due s.state) ++ rest) fits.number,
      number_again w64 (2 ^ 64) wide64 (state_due s.state) rest fits.due,
      slot_of_again s fits.destination,
    ) refl

-- ---- deliveries

payload_again : (raw payload : List ℕ) → payload_of raw (flag_of raw payload) (own_text raw payload) ≡ Ok payload
unfolding payload_of
payload_again raw payload = by_eq (bytes_eq payload raw) refl
  where
    by_eq : (b : Bool) → bytes_eq payload raw ≡ b → payload_of raw (flag_of raw payload) (own_text raw payload) ≡ Ok payload
    by_eq true h = rw h (ap Ok (sym (same_bytes payload raw h)))
    by_eq false h = rw (h, h) refl

pub delivery_again : (raw : List ℕ) (x : Delivery) (rest : List ℕ) → IsDeliveryOf raw x → delivery_at raw (delivery_bytes raw x ++ rest) ≡ Ok (x, rest)
unfolding delivery_at byte_at delivery_bytes
delivery_again raw x rest fits =
    let text = own_text raw x.payload in
    rw (
      number_again w32 (2 ^ 32) wide32 x.destination (text_bytes text ++ rest) fits.destination,
      text_again text rest fits.text,
      payload_again raw x.payload,
    ) refl

deliveries_again : (raw : List ℕ) (xs : List Delivery) (rest : List ℕ) → length xs < 2 ^ 32 → AllByRecursion (IsDeliveryOf raw) xs → are_deliveries xs ≡ true
    → deliveries_at raw (several (delivery_bytes raw) xs ++ rest) ≡ Ok (xs, rest)
unfolding deliveries_at
deliveries_again raw xs rest few fits good =
    rw (several_again (delivery_bytes raw) (λ bytes. delivery_at raw bytes) (IsDeliveryOf raw) (delivery_again raw) xs rest few fits, good) refl

-- ---- a remembered arrival

answer_again : (t : Told) → answer_of (told_kind t) (told_number t) ≡ Ok t
unfolding answer_of
answer_again t = rw (told_again t, eq-eqb (told_kind t) (told_kind t) refl, eq-eqb (told_number t) (told_number t) refl) refl

three : (a b c d rest : List ℕ) → (((a ++ b) ++ c) ++ d) ++ rest ≡ a ++ (b ++ (c ++ (d ++ rest)))
three a b c d rest = simp append_assoc

pub remembered_again : (r : Remembered) (rest : List ℕ) → IsRemembered r → remembered_at (remembered_bytes r ++ rest) ≡ Ok (r, rest)
unfolding remembered_at byte_at remembered_bytes arrival_bytes
remembered_again r rest fits =
    let at_slots : List ℕ = several slot_bytes r.slots ++ rest in
    let at_deliveries : List ℕ = several (delivery_bytes r.raw) r.deliveries ++ at_slots in
    let at_raw : List ℕ = text_bytes r.raw ++ at_deliveries in
    let regrouped = three (arrival_bytes r) (text_bytes r.raw) (several (delivery_bytes r.raw) r.deliveries) (several slot_bytes r.slots) rest in
    let good = good_deliveries r.deliveries fits.goes in
    ap remembered_at regrouped ∙ rw (
      number_again w32 (2 ^ 32) wide32 (told_number r.told) (to_be_bytes w64 r.place ++ to_be_bytes w32 r.channel ++ at_raw) fits.number,
      answer_again r.told,
      number_again w64 (2 ^ 64) wide64 r.place (to_be_bytes w32 r.channel ++ at_raw) fits.place,
      number_again w32 (2 ^ 32) wide32 r.channel at_raw fits.channel,
      text_again r.raw at_deliveries fits.raw,
      deliveries_again r.raw r.deliveries at_slots (omega (arith, few-deliveries r.deliveries fits.goes.within fits.goes.once)) fits.deliveries good,
      several_again slot_bytes slot_at IsSlot slot_again r.slots rest fits.few_slots fits.slots,
    ) refl

-- ---- an opening

head_again : (h : Head) (rest : List ℕ) → IsHead h → head_at (head_bytes h ++ rest) ≡ Ok (h, rest)
unfolding head_at numbers_at byte_at head_bytes
head_again h rest fits =
    rw (
      number_again w32 (2 ^ 32) wide32 h.events_max (to_be_bytes w64 h.places ++ to_be_bytes w32 h.messages ++ to_be_bytes w32 h.deployments ++ to_be_bytes w32 h.prunings ++ rest) fits.events_max,
      number_again w64 (2 ^ 64) wide64 h.places (to_be_bytes w32 h.messages ++ to_be_bytes w32 h.deployments ++ to_be_bytes w32 h.prunings ++ rest) fits.places,
      number_again w32 (2 ^ 32) wide32 h.messages (to_be_bytes w32 h.deployments ++ to_be_bytes w32 h.prunings ++ rest) fits.messages,
      number_again w32 (2 ^ 32) wide32 h.deployments (to_be_bytes w32 h.prunings ++ rest) fits.deployments,
      number_again w32 (2 ^ 32) wide32 h.prunings rest fits.prunings,
    ) refl

four : (a b c d e rest : List ℕ) → ((((a ++ b) ++ c) ++ d) ++ e) ++ rest ≡ a ++ (b ++ (c ++ (d ++ (e ++ rest))))
four a b c d e rest = simp append_assoc

pub opening_again : (w : Written) (rest : List ℕ) → Fits w → opening_at (opening_bytes w ++ rest) ≡ Ok (w, rest)
unfolding opening_at opening_bytes
opening_again w rest fits =
    let at_remembered : List ℕ = several remembered_bytes w.remembered ++ rest in
    let at_destinations : List ℕ = several destination_bytes w.destinations ++ at_remembered in
    let at_channels : List ℕ = several channel_bytes w.channels ++ at_destinations in
    let at_document : List ℕ = text_bytes w.document ++ at_channels in
    let regrouped = four (head_bytes w.head) (text_bytes w.document) (several channel_bytes w.channels) (several destination_bytes w.destinations) (several remembered_bytes w.remembered) rest in
    ap opening_at regrouped ∙ rw (
      head_again w.head at_document fits.head,
      text_again w.document at_channels fits.document,
      several_again channel_bytes channel_at (λ c. AreWide (channel_numbers c)) channel_again w.channels at_destinations fits.few_channels fits.channels,
      several_again destination_bytes destination_at (λ c. AreWide (destination_numbers c)) destination_again w.destinations at_remembered fits.few_destinations fits.destinations,
      several_again remembered_bytes remembered_at IsRemembered remembered_again w.remembered rest fits.few_remembered fits.remembered,
    ) refl

pub opening_back : (w : Written) → Fits w → opening_in (opening_bytes w) ≡ Ok w
unfolding opening_in
opening_back w fits =
    let whole : opening_at (opening_bytes w) ≡ Ok (w, []) = ap opening_at (sym (append-nil (opening_bytes w))) ∙ opening_again w [] fits in
    rw whole refl
