-- What is decoded encodes to the bytes that were decoded, and it fits.
use Rattle.std.proofs.Common.{◌≡◌, ℕ, zero, suc, ◌+◌, ◌^◌, ◌<◌, ◌≤◌, Bool, true, false, not, ◌&&◌, ◌==◌, List, [], ◌∷◌, ◌++◌, length, get_or, take, drop, nat_lt, Result, Ok, Err, refl, sym, ap, subst, ◌∙◌, append_assoc, arith, rules, cond}
use Rattle.std.specs.Str.{bytes_eq}
use Rattle.std.specs.List.{AllByRecursion, flat_map}
use Rattle.std.specs.Int.{Width, w32, w64, byte_len, from_be_bytes, to_be_bytes}
use Rattle.std.proofs.lemmas.Bool.{and_parts, eqb-true, ltb-true, ltb-false, not-true}
use Rattle.std.proofs.lemmas.List.{length-take-le, append-nil}
use Rattle.std.proofs.lemmas.Slice.Eq.{bytes_eq-Decides}
use Rattle.judge_core.specs.declared.delivery.Delivery.{Delivery}
use Rattle.dest_queue.specs.declared.SlotState.{SlotState}
use Rattle.dest_queue.specs.declared.slots.Slot.{Slot}
use Rattle.stat_count.specs.declared.ChannelCounts.{ChannelCounts}
use Rattle.stat_count.specs.declared.DestinationCounts.{DestinationCounts}
use Rattle.event_log.specs.declared.entry.Told.{Told}
use Rattle.event_log.specs.History.{Remembered}
use Rattle.event_records.specs.declared.fault.RecordFault.{RecordFault}
use Rattle.event_records.specs.declared.fault.RecordFault.TheVariants.{Truncated, Unknown}
use Rattle.event_records.specs.inner.Fields.{AreBytes, told_kind, told_number}
use Rattle.event_records.specs.inner.Encoding.{text_bytes}
use Rattle.event_records.specs.inner.Decoding.{◌>>=◌, number_at, text_at, told_of}
use Rattle.event_records.proofs.Only.{Bound, bound, got, bytes_taken, Splits, number_only, text_only, exact32, exact64, behind}
use Rattle.opening_records.specs.declared.head.Head.{Head}
use Rattle.opening_records.specs.inner.Encoding.{Written, arrival_bytes, channel_bytes, channel_numbers, delivery_bytes, destination_bytes, destination_numbers, flag_of, format, head_bytes, numbers_bytes, opening_bytes, own_text, remembered_bytes, several, slot_bytes, state_due, state_kind, state_number}
use Rattle.opening_records.specs.inner.Openings.{AreWide, Fits, IsDeliveryOf, IsHead, IsRemembered, IsSlot}
use Rattle.opening_records.specs.inner.Decoding.{answer_of, are_deliveries, byte_at, channel_at, deliveries_at, delivery_at, destination_at, head_at, is_slot, numbers_at, opening_at, opening_in, payload_of, remembered_at, several_at, slot_at, slot_of, state_of, tested}
use Rattle.opening_records.proofs.Deliveries.{deliveries_good}
use Rattle.opening_records.proofs.Numbers.{TakesNumber, takes32, takes64}
use Rattle.opening_records.proofs.Lists.{AllFit, IsRead, Takes, several_takes}

-- ---- a test that is passed

tested_true : {A : Type 0} (b : Bool) (x y : A) → tested b x ≡ Ok y → (b ≡ true) × (x ≡ y)
tested_true true x y e = (refl, got x y e)
tested_true false x y e = absurd cc

-- ---- bytes

byte_takes : (bytes : List ℕ) (b : ℕ) (rest : List ℕ) → AreBytes bytes → byte_at bytes ≡ Ok (b, rest) → Splits bytes (b ∷ []) rest
unfolding byte_at
byte_takes [] b rest are e = absurd cc
byte_takes (x ∷ bytes) b rest are e =
    let pair : (x, bytes) ≡ (b, rest) = got _ _ e in
    let same : x ≡ b = ap (λ (p : ℕ × List ℕ). p.0) pair in
    let behind_it : bytes ≡ rest = ap (λ (p : ℕ × List ℕ). p.1) pair in
    record { is = ap (λ (p : ℕ × List ℕ). p.0 ∷ p.1) pair; are = subst AreBytes behind_it (λ i. are (suc i)) }

-- ---- texts

abbrev text_by : ℕ → List ℕ → Bool → Result (List ℕ × List ℕ) RecordFault
text_by n bytes short = cond short (Err Truncated) (Ok (take n bytes, drop n bytes))

text_wide : (bytes text rest : List ℕ) → AreBytes bytes → text_at bytes ≡ Ok (text, rest) → length text < 2 ^ 32
unfolding text_at
text_wide bytes text rest are e =
    let step = bound (number_at w32 bytes) (λ (n : ℕ × List ℕ). text_by n.0 n.1 (nat_lt (length n.1) n.0)) (text, rest) e in
    by step.value.0 step.value.1 step.first (nat_lt (length step.value.1) step.value.0) refl step.then
  where
    by : (n : ℕ) (behind_it : List ℕ) → number_at w32 bytes ≡ Ok (n, behind_it) → (b : Bool) → nat_lt (length behind_it) n ≡ b
        → text_by n behind_it b ≡ Ok (text, rest) → length text < 2 ^ 32
    by n behind_it first true short e = absurd cc
    by n behind_it first false long e =
        let pair : (take n behind_it, drop n behind_it) ≡ (text, rest) = got _ _ e in
        let front : take n behind_it ≡ text = ap (λ (p : List ℕ × List ℕ). p.0) pair in
        let len : length text ≡ n = ap (λ (t : List ℕ). length t) (sym front) ∙ length-take-le n behind_it (ltb-false (length behind_it) n long) in
        subst (λ (k : ℕ). k < 2 ^ 32) (sym len) (takes32 bytes n behind_it are first).wide

-- ---- counters

record TakesFive (bytes : List ℕ) (numbers : List ℕ) (rest : List ℕ) : Type 0 where
  splits : Splits bytes (numbers_bytes numbers) rest
  wide : AreWide numbers

five_takes : (bytes : List ℕ) (a b c d e : ℕ × List ℕ) → AreBytes bytes → number_at w64 bytes ≡ Ok a → number_at w64 a.1 ≡ Ok b → number_at w64 b.1 ≡ Ok c
    → number_at w64 c.1 ≡ Ok d → number_at w64 d.1 ≡ Ok e → TakesFive bytes (a.0 ∷ b.0 ∷ c.0 ∷ d.0 ∷ e.0 ∷ []) e.1
five_takes bytes a b c d e are p q r s t =
    let one = takes64 bytes a.0 a.1 are p in
    let two = takes64 a.1 b.0 b.1 one.splits.are q in
    let three = takes64 b.1 c.0 c.1 two.splits.are r in
    let four = takes64 c.1 d.0 d.1 three.splits.are s in
    let five = takes64 d.1 e.0 e.1 four.splits.are t in
    let all = behind _ _ _ _ _ (behind _ _ _ _ _ (behind _ _ _ _ _ (behind _ _ _ _ _ one.splits two.splits) three.splits) four.splits) five.splits in
    record { splits = all; wide = (one.wide, (two.wide, (three.wide, (four.wide, (five.wide, tt))))) }

pub channel_takes : IsRead channel_bytes channel_at (λ c. AreWide (channel_numbers c))
unfolding channel_at channel_bytes
channel_takes bytes x rest are h =
    let a = bound _ _ _ h in
    let b = bound _ _ _ a.then in
    let c = bound _ _ _ b.then in
    let d = bound _ _ _ c.then in
    let e = bound _ _ _ d.then in
    let five = five_takes bytes a.value b.value c.value d.value e.value are a.first b.first c.first d.first e.first in
    let made : ChannelCounts = record { received = a.value.0; filtered = b.value.0; accepted = c.value.0; refused = d.value.0; repeats = e.value.0 } in
    let pair : (made, e.value.1) ≡ (x, rest) = got _ _ e.then in
    subst (λ (p : ChannelCounts × List ℕ). Takes channel_bytes (λ c. AreWide (channel_numbers c)) bytes p.0 p.1) pair
    (record { splits = five.splits; fits = five.wide })

pub destination_takes : IsRead destination_bytes destination_at (λ c. AreWide (destination_numbers c))
unfolding destination_at destination_bytes
destination_takes bytes x rest are h =
    let a = bound _ _ _ h in
    let b = bound _ _ _ a.then in
    let c = bound _ _ _ b.then in
    let d = bound _ _ _ c.then in
    let e = bound _ _ _ d.then in
    let five = five_takes bytes a.value b.value c.value d.value e.value are a.first b.first c.first d.first e.first in
    let made : DestinationCounts = record { waiting = a.value.0; inflight = b.value.0; delivered = c.value.0; failed = d.value.0; attempts = e.value.0 } in
    let pair : (made, e.value.1) ≡ (x, rest) = got _ _ e.then in
    subst (λ (p : DestinationCounts × List ℕ). Takes destination_bytes (λ c. AreWide (destination_numbers c)) bytes p.0 p.1) pair
    (record { splits = five.splits; fits = five.wide })

-- ---- slots

record SlotParts (destination kind number due : ℕ) (s : Slot) : Type 0 where
  destination_is : s.destination ≡ destination
  kind_is : state_kind s.state ≡ kind
  number_is : state_number s.state ≡ number
  due_is : state_due s.state ≡ due
  within : s.destination < 32

slot_parts : (destination kind number due : ℕ) (s : Slot) → slot_of destination kind number due ≡ Ok s → SlotParts destination kind number due s
unfolding slot_of
slot_parts destination kind number due s e =
    let a = bound (state_of kind number due) (λ (state : SlotState). tested (is_slot kind number due (record { destination = destination; state = state })) (record { destination = destination; state = state })) s e in
    let made : Slot = record { destination = destination; state = a.value } in
    let p = tested_true (is_slot kind number due made) made s a.then in
    let q = and_parts _ _ p.0 in
    let r = and_parts _ _ q.0 in
    let t = and_parts _ _ r.0 in
    subst (λ (x : Slot). SlotParts destination kind number due x) p.1
    (record {
      destination_is = refl;
      kind_is = eqb-true (state_kind made.state) kind t.1;
      number_is = eqb-true (state_number made.state) number r.1;
      due_is = eqb-true (state_due made.state) due q.1;
      within = ltb-true made.destination 32 t.0;
    })

slot_joined : (bytes : List ℕ) (destination kind number due : ℕ) (s : Slot) (rest : List ℕ) → SlotParts destination kind number due s
    → Splits bytes (kind ∷ to_be_bytes w32 destination ++ to_be_bytes w32 number ++ to_be_bytes w64 due) rest
    → number < 2 ^ 32 → due < 2 ^ 64 → Takes slot_bytes IsSlot bytes s rest
unfolding slot_bytes
slot_joined bytes destination kind number due s rest parts splits number_fits due_fits =
    record {
      splits =
          subst (λ k. Splits bytes (k ∷ to_be_bytes w32 s.destination ++ to_be_bytes w32 (state_number s.state) ++ to_be_bytes w64 (state_due s.state)) rest) (sym parts.kind_is) (
          subst (λ k. Splits bytes (kind ∷ to_be_bytes w32 k ++ to_be_bytes w32 (state_number s.state) ++ to_be_bytes w64 (state_due s.state)) rest) (sym parts.destination_is) (
          subst (λ k. Splits bytes (kind ∷ to_be_bytes w32 destination ++ to_be_bytes w32 k ++ to_be_bytes w64 (state_due s.state)) rest) (sym parts.number_is) (
          subst (λ k. Splits bytes (kind ∷ to_be_bytes w32 destination ++ to_be_bytes w32 number ++ to_be_bytes w64 k) rest) (sym parts.due_is) splits
          )));
      fits = record {
        destination = parts.within;
        number = subst (λ k. k < 2 ^ 32) (sym parts.number_is) number_fits;
        due = subst (λ k. k < 2 ^ 64) (sym parts.due_is) due_fits;
      };
    }

pub slot_takes : IsRead slot_bytes slot_at IsSlot
unfolding slot_at
slot_takes bytes x rest are h =
    let a = bound _ _ _ h in
    let b = bound _ _ _ a.then in
    let c = bound _ _ _ b.then in
    let d = bound _ _ _ c.then in
    let s = bound _ _ _ d.then in
    let pair : (s.value, d.value.1) ≡ (x, rest) = got _ _ s.then in
    let kind = byte_takes bytes a.value.0 a.value.1 are a.first in
    let destination = takes32 a.value.1 b.value.0 b.value.1 kind.are b.first in
    let number = takes32 b.value.1 c.value.0 c.value.1 destination.splits.are c.first in
    let due = takes64 c.value.1 d.value.0 d.value.1 number.splits.are d.first in
    let all = behind _ _ _ _ _ (behind _ _ _ _ _ (behind _ _ _ _ _ kind destination.splits) number.splits) due.splits in
    let parts = slot_parts b.value.0 a.value.0 c.value.0 d.value.0 s.value s.first in
    subst (λ (p : Slot × List ℕ). Takes slot_bytes IsSlot bytes p.0 p.1) pair
    (slot_joined bytes b.value.0 a.value.0 c.value.0 d.value.0 s.value d.value.1 parts all number.wide due.wide)

-- ---- deliveries

text_self : (text : List ℕ) → bytes_eq text text ≡ true
text_self text = search (rules, bytes_eq-Decides)

no_text : (text : List ℕ) → (length text == 0) ≡ true → text ≡ []
no_text [] e = refl
no_text (b ∷ text) e = let h = eqb-true (length (b ∷ text)) 0 e in absurd (omega arith)

record PayloadParts (raw : List ℕ) (flag : ℕ) (text payload : List ℕ) : Type 0 where
  flag_is : flag_of raw payload ≡ flag
  text_is : own_text raw payload ≡ text

payload_parts : (raw : List ℕ) (flag : ℕ) (text payload : List ℕ) → payload_of raw flag text ≡ Ok payload → PayloadParts raw flag text payload
unfolding payload_of
payload_parts raw flag text payload e = first (flag == 0) refl e
  where
    second : (b : Bool) → (flag == 1) ≡ b → cond b (tested (length text == 0) raw) (Err Unknown) ≡ Ok payload → PayloadParts raw flag text payload
    second false other e = absurd cc
    second true is e =
        let p = tested_true (length text == 0) raw payload e in
        let none = no_text text p.0 in
        let one = eqb-true flag 1 is in
        subst (λ (x : List ℕ). PayloadParts raw flag text x) p.1
        (record { flag_is = rw (text_self raw) (sym one); text_is = rw (text_self raw) (sym none) })

    first : (b : Bool) → (flag == 0) ≡ b → cond b (tested (not (bytes_eq text raw)) text) (cond (flag == 1) (tested (length text == 0) raw) (Err Unknown)) ≡ Ok payload → PayloadParts raw flag text payload
    first true is e =
        let p = tested_true (not (bytes_eq text raw)) text payload e in
        let differs = not-true (bytes_eq text raw) p.0 in
        let none = eqb-true flag 0 is in
        subst (λ (x : List ℕ). PayloadParts raw flag text x) p.1
        (record { flag_is = rw differs (sym none); text_is = rw differs refl })
    first false other e = second (flag == 1) refl e

delivery_joined : (raw bytes : List ℕ) (flag : ℕ) (text : List ℕ) (x : Delivery) (rest : List ℕ) → PayloadParts raw flag text x.payload
    → Splits bytes (flag ∷ to_be_bytes w32 x.destination ++ text_bytes text) rest → x.destination < 2 ^ 32 → length text < 2 ^ 32
    → Takes (delivery_bytes raw) (IsDeliveryOf raw) bytes x rest
unfolding delivery_bytes
delivery_joined raw bytes flag text x rest parts splits within short =
    record {
      splits =
          subst (λ k. Splits bytes (k ∷ to_be_bytes w32 x.destination ++ text_bytes (own_text raw x.payload)) rest) (sym parts.flag_is) (
          subst (λ (t : List ℕ). Splits bytes (flag ∷ to_be_bytes w32 x.destination ++ text_bytes t) rest) (sym parts.text_is) splits
          );
      fits = record { destination = within; text = subst (λ (t : List ℕ). length t < 2 ^ 32) (sym parts.text_is) short };
    }

pub delivery_takes : (raw : List ℕ) → IsRead (delivery_bytes raw) (λ rest. delivery_at raw rest) (IsDeliveryOf raw)
unfolding delivery_at
delivery_takes raw bytes x rest are h =
    let a = bound _ _ _ h in
    let b = bound _ _ _ a.then in
    let c = bound _ _ _ b.then in
    let d = bound _ _ _ c.then in
    let made : Delivery = record { destination = b.value.0; payload = d.value } in
    let pair : (made, c.value.1) ≡ (x, rest) = got _ _ d.then in
    let flag = byte_takes bytes a.value.0 a.value.1 are a.first in
    let destination = takes32 a.value.1 b.value.0 b.value.1 flag.are b.first in
    let text = text_only b.value.1 c.value.0 c.value.1 destination.splits.are c.first in
    let short = text_wide b.value.1 c.value.0 c.value.1 destination.splits.are c.first in
    let all = behind _ _ _ _ _ (behind _ _ _ _ _ flag destination.splits) text in
    let parts = payload_parts raw a.value.0 c.value.0 d.value d.first in
    subst (λ (p : Delivery × List ℕ). Takes (delivery_bytes raw) (IsDeliveryOf raw) bytes p.0 p.1) pair
    (delivery_joined raw bytes a.value.0 c.value.0 made c.value.1 parts all destination.wide short)

record AreGood (raw : List ℕ) (xs : List Delivery) : Type 0 where
  fit : AllFit (IsDeliveryOf raw) xs
  test : are_deliveries xs ≡ true

deliveries_takes : (raw : List ℕ) → IsRead (several (delivery_bytes raw)) (λ rest. deliveries_at raw rest) (AreGood raw)
unfolding deliveries_at
deliveries_takes raw bytes xs rest are h =
    let a = bound _ _ _ h in
    let p = tested_true (are_deliveries a.value.0) a.value (xs, rest) a.then in
    let good : are_deliveries a.value.0 ≡ true = p.0 in
    let found = several_takes (delivery_bytes raw) (λ rest. delivery_at raw rest) (IsDeliveryOf raw) (delivery_takes raw) bytes a.value.0 a.value.1 are a.first in
    subst (λ (p : List Delivery × List ℕ). Takes (several (delivery_bytes raw)) (AreGood raw) bytes p.0 p.1) p.1
    (record { splits = found.splits; fits = record { fit = found.fits; test = good } })

-- ---- a remembered arrival

record ToldParts (kind number : ℕ) (t : Told) : Type 0 where
  kind_is : told_kind t ≡ kind
  number_is : told_number t ≡ number

told_parts : (kind number : ℕ) (t : Told) → answer_of kind number ≡ Ok t → ToldParts kind number t
unfolding answer_of
told_parts kind number t e =
    let a = bound (told_of kind number) (λ (told : Told). tested ((told_kind told == kind) && (told_number told == number)) told) t e in
    let p = tested_true ((told_kind a.value == kind) && (told_number a.value == number)) a.value t a.then in
    let q = and_parts _ _ p.0 in
    subst (λ (x : Told). ToldParts kind number x) p.1 (record { kind_is = eqb-true (told_kind a.value) kind q.0; number_is = eqb-true (told_number a.value) number q.1 })

arrival_joined : (bytes : List ℕ) (kind number : ℕ) (r : Remembered) (rest : List ℕ) → ToldParts kind number r.told
    → Splits bytes (kind ∷ to_be_bytes w32 number ++ to_be_bytes w64 r.place ++ to_be_bytes w32 r.channel) rest → Splits bytes (arrival_bytes r) rest
unfolding arrival_bytes
arrival_joined bytes kind number r rest parts splits =
    subst (λ k. Splits bytes (k ∷ to_be_bytes w32 (told_number r.told) ++ to_be_bytes w64 r.place ++ to_be_bytes w32 r.channel) rest) (sym parts.kind_is) (
    subst (λ k. Splits bytes (kind ∷ to_be_bytes w32 k ++ to_be_bytes w64 r.place ++ to_be_bytes w32 r.channel) rest) (sym parts.number_is) splits
    )

remembered_joined : (bytes middle after last rest : List ℕ) (r : Remembered) → Splits bytes (arrival_bytes r) middle → Splits middle (text_bytes r.raw) after
    → Splits after (several (delivery_bytes r.raw) r.deliveries) last → Splits last (several slot_bytes r.slots) rest → Splits bytes (remembered_bytes r) rest
unfolding remembered_bytes
remembered_joined bytes middle after last rest r p q s t =
    behind bytes (arrival_bytes r ++ text_bytes r.raw ++ several (delivery_bytes r.raw) r.deliveries) last (several slot_bytes r.slots) rest
    (behind bytes (arrival_bytes r ++ text_bytes r.raw) after (several (delivery_bytes r.raw) r.deliveries) last
    (behind bytes (arrival_bytes r) middle (text_bytes r.raw) after p q) s) t

-- the answer, the index and the channel that are decoded
record ArrivalParts (bytes : List ℕ) (r : Remembered) (rest : List ℕ) : Type 0 where
  splits : Splits bytes (arrival_bytes r) rest
  number : told_number r.told < 2 ^ 32
  place : r.place < 2 ^ 64
  channel : r.channel < 2 ^ 32

arrival_takes : (bytes : List ℕ) (a b c d : ℕ × List ℕ) (t : Told) (raw : List ℕ) (ds : List Delivery) (ss : List Slot) → AreBytes bytes → byte_at bytes ≡ Ok a
    → number_at w32 a.1 ≡ Ok b → answer_of a.0 b.0 ≡ Ok t → number_at w64 b.1 ≡ Ok c → number_at w32 c.1 ≡ Ok d
    → ArrivalParts bytes (record { place = c.0; channel = d.0; raw = raw; told = t; deliveries = ds; slots = ss }) d.1
arrival_takes bytes a b c d t raw ds ss are p q told r s =
    let kind = byte_takes bytes a.0 a.1 are p in
    let number = takes32 a.1 b.0 b.1 kind.are q in
    let place = takes64 b.1 c.0 c.1 number.splits.are r in
    let channel = takes32 c.1 d.0 d.1 place.splits.are s in
    let parts = told_parts a.0 b.0 t told in
    let all = behind _ _ _ _ _ (behind _ _ _ _ _ (behind _ _ _ _ _ kind number.splits) place.splits) channel.splits in
    record {
      splits = arrival_joined bytes a.0 b.0 (record { place = c.0; channel = d.0; raw = raw; told = t; deliveries = ds; slots = ss }) d.1 parts all;
      number = subst (λ k. k < 2 ^ 32) (sym parts.number_is) number.wide;
      place = place.wide;
      channel = channel.wide;
    }

remembered_made : (bytes middle after last rest : List ℕ) (r : Remembered) → ArrivalParts bytes r middle → Splits middle (text_bytes r.raw) after → length r.raw < 2 ^ 32
    → Takes (several (delivery_bytes r.raw)) (AreGood r.raw) after r.deliveries last → Takes (several slot_bytes) (AllFit IsSlot) last r.slots rest
    → Takes remembered_bytes IsRemembered bytes r rest
remembered_made bytes middle after last rest r front raw short deliveries slots = record {
  splits = remembered_joined bytes middle after last rest r front.splits raw deliveries.splits slots.splits;
  fits = record {
    number = front.number;
    place = front.place;
    channel = front.channel;
    raw = short;
    deliveries = deliveries.fits.fit.each;
    goes = deliveries_good r.deliveries deliveries.fits.test;
    slots = slots.fits.each;
    few_slots = slots.fits.few;
  };
}

remembered_from : (bytes : List ℕ) (a b c d : ℕ × List ℕ) (t : Told) (e : List ℕ × List ℕ) (f : List Delivery × List ℕ) (g : List Slot × List ℕ) → AreBytes bytes
    → byte_at bytes ≡ Ok a → number_at w32 a.1 ≡ Ok b → answer_of a.0 b.0 ≡ Ok t → number_at w64 b.1 ≡ Ok c → number_at w32 c.1 ≡ Ok d
    → text_at d.1 ≡ Ok e → deliveries_at e.0 e.1 ≡ Ok f → several_at slot_at f.1 ≡ Ok g
    → Takes remembered_bytes IsRemembered bytes (record { place = c.0; channel = d.0; raw = e.0; told = t; deliveries = f.0; slots = g.0 }) g.1
remembered_from bytes a b c d t e f g are p q told r s text goes last =
    let front = arrival_takes bytes a b c d t e.0 f.0 g.0 are p q told r s in
    let raw = text_only d.1 e.0 e.1 front.splits.are text in
    let deliveries = deliveries_takes e.0 e.1 f.0 f.1 raw.are goes in
    let slots = several_takes slot_bytes slot_at IsSlot slot_takes f.1 g.0 g.1 deliveries.splits.are last in
    remembered_made bytes d.1 e.1 f.1 g.1 (record { place = c.0; channel = d.0; raw = e.0; told = t; deliveries = f.0; slots = g.0 }) front raw
    (text_wide d.1 e.0 e.1 front.splits.are text) deliveries slots

pub remembered_takes : IsRead remembered_bytes remembered_at IsRemembered
unfolding remembered_at
remembered_takes bytes x rest are h =
    let a = bound _ _ _ h in
    let b = bound _ _ _ a.then in
    let t = bound _ _ _ b.then in
    let c = bound _ _ _ t.then in
    let d = bound _ _ _ c.then in
    let e = bound _ _ _ d.then in
    let f = bound _ _ _ e.then in
    let g = bound _ _ _ f.then in
    let made : Remembered = record { place = c.value.0; channel = d.value.0; raw = e.value.0; told = t.value; deliveries = f.value.0; slots = g.value.0 } in
    let pair : (made, g.value.1) ≡ (x, rest) = got _ _ g.then in
    subst (λ (p : Remembered × List ℕ). Takes remembered_bytes IsRemembered bytes p.0 p.1) pair
    (remembered_from bytes a.value b.value c.value d.value t.value e.value f.value g.value are a.first b.first t.first c.first d.first e.first f.first g.first)

-- ---- an opening

numbers_takes : (bytes : List ℕ) (h : Head) (rest : List ℕ) → AreBytes bytes → head_at bytes ≡ Ok (h, rest) → Takes head_bytes IsHead bytes h rest
unfolding head_at numbers_at head_bytes
numbers_takes bytes h rest are e =
    let a = bound (byte_at bytes) (λ (f : ℕ × List ℕ). cond (f.0 == format) (numbers_at f.1) (Err Unknown)) (h, rest) e in
    by a.value.0 a.value.1 a.first (a.value.0 == format) refl a.then
  where
    by : (f : ℕ) (after : List ℕ) → byte_at bytes ≡ Ok (f, after) → (b : Bool) → (f == format) ≡ b → cond b (numbers_at after) (Err Unknown) ≡ Ok (h, rest) → Takes head_bytes IsHead bytes h rest
    by f after first false other e = absurd cc
    by f after first true is e =
        let front = byte_takes bytes f after are first in
        let mark = subst (λ k. Splits bytes (k ∷ []) after) (eqb-true f format is) front in
        let a = bound _ _ _ e in
        let b = bound _ _ _ a.then in
        let c = bound _ _ _ b.then in
        let d = bound _ _ _ c.then in
        let g = bound _ _ _ d.then in
        let made : Head = record { events_max = a.value.0; places = b.value.0; messages = c.value.0; deployments = d.value.0; prunings = g.value.0 } in
        let pair : (made, g.value.1) ≡ (h, rest) = got _ _ g.then in
        let events_max = takes32 after a.value.0 a.value.1 front.are a.first in
        let places = takes64 a.value.1 b.value.0 b.value.1 events_max.splits.are b.first in
        let messages = takes32 b.value.1 c.value.0 c.value.1 places.splits.are c.first in
        let deployments = takes32 c.value.1 d.value.0 d.value.1 messages.splits.are d.first in
        let prunings = takes32 d.value.1 g.value.0 g.value.1 deployments.splits.are g.first in
        let all = behind _ _ _ _ _ (behind _ _ _ _ _ (behind _ _ _ _ _ (behind _ _ _ _ _ (behind _ _ _ _ _ mark events_max.splits) places.splits) messages.splits) deployments.splits) prunings.splits in
        subst (λ (p : Head × List ℕ). Takes head_bytes IsHead bytes p.0 p.1) pair
        (record { splits = all; fits = record { events_max = events_max.wide; places = places.wide; messages = messages.wide; deployments = deployments.wide; prunings = prunings.wide } })

opening_joined : (bytes a b c d rest : List ℕ) (w : Written) → Splits bytes (head_bytes w.head) a → Splits a (text_bytes w.document) b
    → Splits b (several channel_bytes w.channels) c → Splits c (several destination_bytes w.destinations) d → Splits d (several remembered_bytes w.remembered) rest
    → Splits bytes (opening_bytes w) rest
unfolding opening_bytes
opening_joined bytes a b c d rest w p q r s t =
    behind bytes (head_bytes w.head ++ text_bytes w.document ++ several channel_bytes w.channels ++ several destination_bytes w.destinations) d (several remembered_bytes w.remembered) rest
    (behind bytes (head_bytes w.head ++ text_bytes w.document ++ several channel_bytes w.channels) c (several destination_bytes w.destinations) d
    (behind bytes (head_bytes w.head ++ text_bytes w.document) b (several channel_bytes w.channels) c
    (behind bytes (head_bytes w.head) a (text_bytes w.document) b p q) r) s) t

pub opening_takes : IsRead opening_bytes opening_at Fits
unfolding opening_at
opening_takes bytes x rest are h =
    let a = bound _ _ _ h in
    let b = bound _ _ _ a.then in
    let c = bound _ _ _ b.then in
    let d = bound _ _ _ c.then in
    let e = bound _ _ _ d.then in
    let made : Written = record { head = a.value.0; document = b.value.0; channels = c.value.0; destinations = d.value.0; remembered = e.value.0 } in
    let pair : (made, e.value.1) ≡ (x, rest) = got _ _ e.then in
    let head = numbers_takes bytes a.value.0 a.value.1 are a.first in
    let document = text_only a.value.1 b.value.0 b.value.1 head.splits.are b.first in
    let channels = several_takes channel_bytes channel_at (λ c. AreWide (channel_numbers c)) channel_takes b.value.1 c.value.0 c.value.1 document.are c.first in
    let destinations = several_takes destination_bytes destination_at (λ c. AreWide (destination_numbers c)) destination_takes c.value.1 d.value.0 d.value.1 channels.splits.are d.first in
    let remembered = several_takes remembered_bytes remembered_at IsRemembered remembered_takes d.value.1 e.value.0 e.value.1 destinations.splits.are e.first in
    subst (λ (p : Written × List ℕ). Takes opening_bytes Fits bytes p.0 p.1) pair
    (record {
      splits = opening_joined bytes a.value.1 b.value.1 c.value.1 d.value.1 e.value.1 made head.splits document channels.splits destinations.splits remembered.splits;
      fits = record {
        head = head.fits;
        document = text_wide a.value.1 b.value.0 b.value.1 head.splits.are b.first;
        channels = channels.fits.each;
        few_channels = channels.fits.few;
        destinations = destinations.fits.each;
        few_destinations = destinations.fits.few;
        remembered = remembered.fits.each;
        few_remembered = remembered.fits.few;
      };
    })

-- an opening that takes all the bytes
pub record IsWhole (bytes : List ℕ) (w : Written) : Type 0 where
  pub is : bytes ≡ opening_bytes w
  pub fits : Fits w

pub opening_only : (bytes : List ℕ) (w : Written) → AreBytes bytes → opening_in bytes ≡ Ok w → IsWhole bytes w
unfolding opening_in
opening_only bytes w are h =
    let a = bound _ _ _ h in
    let p = tested_true (length a.value.1 == 0) a.value.0 w a.then in
    let none : a.value.1 ≡ [] = no_text a.value.1 p.0 in
    let found = opening_takes bytes a.value.0 a.value.1 are a.first in
    let all : bytes ≡ opening_bytes a.value.0 = found.splits.is ∙ (ap (λ (x : List ℕ). opening_bytes a.value.0 ++ x) none ∙ append-nil (opening_bytes a.value.0)) in
    subst (λ (x : Written). IsWhole bytes x) p.1 (record { is = all; fits = found.fits })
