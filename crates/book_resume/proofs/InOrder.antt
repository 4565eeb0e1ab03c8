-- What the tests of an opening's order say.
use Rattle.std.proofs.Common.{◌≡◌, ℕ, ◌+◌, ◌-◌, ◌<◌, ◌≤◌, Bool, true, false, List, [], ◌∷◌, length, map, Option, refl, sym, subst, arith}
use Rattle.std.specs.Prelude.{All, IfNone, IfSome}
use Rattle.std.specs.Bool.{then_some}
use Rattle.std.specs.List.{filter_map, list_all, range_with_len}
use Rattle.std.specs.List.Sorted.{IsStrictlyIncreasing}
use Rattle.std.proofs.lemmas.Bool.{and_from, and_parts, eq-eqb, eqb-true, lt-ltb, ltb-true}
use Rattle.std.proofs.lemmas.List.Elements.{All-weaker}
use Rattle.std.proofs.lemmas.List.Sums.{AllPass-from_list_all, list_all-from_AllPass}
use Rattle.mllp_frame.specs.Framing.{IsBlockData}
use Rattle.plan_text.specs.Entries.{PlanEntry}
use Rattle.judge_core.specs.declared.delivery.Delivery.{Delivery}
use Rattle.judge_core.specs.Delivering.{destinations_of}
use Rattle.judge_core.specs.inner.Delivering.{AreDeliveries}
use Rattle.dest_queue.specs.declared.SlotState.{SlotState}
use Rattle.dest_queue.specs.declared.SlotState.TheVariants.{Waiting, InFlight, Delivered, Failed}
use Rattle.event_log.specs.declared.entry.Told.{Told}
use Rattle.event_log.specs.declared.entry.Told.TheVariants as told
use Rattle.event_log.specs.Answers.{attempts_max, is_kept}
use Rattle.event_log.specs.History.{Remembered, Snapshot}
use Rattle.event_log.specs.inner.History.{number_of}
use Rattle.event_log.specs.inner.Legal.{IsWithin}
use Rattle.event_log.specs.Room.{is_in_flight}
use Rattle.book_resume.specs.inner.Order.{AreLast, IsAnswered, IsBounded, IsInOrder, IsOrdered, channel_fits, destination_fits, follow_from, is_at_rest, slot_rests}
use Rattle.book_resume.specs.inner.Owing.{remembered_owed}
use Rattle.book_resume.proofs.Climbing.{places-few}

-- ---- numbers that follow one another

pub follow-range : (first : ℕ) (ns : List ℕ) → follow_from first ns ≡ true → ns ≡ range_with_len first (length ns)
follow-range first [] e = refl
follow-range first (n ∷ ns) e =
    let p = and_parts _ _ e in
    let same : n ≡ first = eqb-true n first p.0 in
    let rest = follow-range (first + 1) ns p.1 in
    λ i. same i ∷ rest i

pub range-follow : (first : ℕ) (ns : List ℕ) → ns ≡ range_with_len first (length ns) → follow_from first ns ≡ true
range-follow first [] e = refl
range-follow first (n ∷ ns) e =
    let same : n ≡ first = cc in
    let rest : ns ≡ range_with_len (first + 1) (length ns) = cc in
    and_from _ _ (eq-eqb n first same) (range-follow (first + 1) ns rest)

pub last-some : (messages first : ℕ) (ns : List ℕ) (o : Option ℕ) → length ns ≤ messages → first ≡ messages - length ns
    → o ≡ then_some (follow_from first ns) first → IfSome o (λ x. AreLast messages ns)
last-some messages first ns o few is same = subst (λ (q : Option ℕ). IfSome q (λ x. AreLast messages ns)) (sym same) (by (follow_from first ns) refl)
  where
    by : (b : Bool) → follow_from first ns ≡ b → IfSome (then_some b first) (λ x. AreLast messages ns)
    by true e = record { few = few; last = subst (λ (k : ℕ). ns ≡ range_with_len k (length ns)) is (follow-range first ns e) }
    by false e = tt

pub last-none : (messages first : ℕ) (ns : List ℕ) (o : Option ℕ) → first ≡ messages - length ns
    → o ≡ then_some (follow_from first ns) first → IfNone o (¬ AreLast messages ns)
last-none messages first ns o is same = subst (λ (q : Option ℕ). IfNone q (¬ AreLast messages ns)) (sym same) (by (follow_from first ns) refl)
  where
    by : (b : Bool) → follow_from first ns ≡ b → IfNone (then_some b first) (¬ AreLast messages ns)
    by true e = tt
    by false e = λ last. let yes = range-follow first ns (subst (λ (k : ℕ). ns ≡ range_with_len k (length ns)) (sym is) last.last) in absurd cc

-- ---- an arrival

rest-within : (max : ℕ) (s : SlotState) → is_at_rest max s ≡ true → IsWithin max s
rest-within max (Waiting attempts due) rests = ltb-true attempts max rests
rest-within max (InFlight attempt) rests = absurd cc
rest-within max Delivered rests = tt
rest-within max (Failed cause) rests = tt

rest-still : (max : ℕ) (s : SlotState) → is_at_rest max s ≡ true → is_in_flight s ≡ false
rest-still max (Waiting attempts due) rests = refl
rest-still max (InFlight attempt) rests = absurd cc
rest-still max Delivered rests = refl
rest-still max (Failed cause) rests = refl

within-rest : (max : ℕ) (s : SlotState) → IsWithin max s → is_in_flight s ≡ false → is_at_rest max s ≡ true
within-rest max (Waiting attempts due) within still = lt-ltb attempts max within
within-rest max (InFlight attempt) within still = absurd cc
within-rest max Delivered within still = refl
within-rest max (Failed cause) within still = refl

answer-kept : (t : Told) (ds : List Delivery) → IsAnswered t ds → is_kept t ≡ true
answer-kept (told.Accepted number) ds is = refl
answer-kept told.Filtered ds is = refl
answer-kept (told.Refused cause) ds is = absurd is
answer-kept (told.Repeat place) ds is = absurd is

answer-nowhere : (t : Told) (ds : List Delivery) → IsAnswered t ds → t ≡ told.Filtered → ds ≡ []
answer-nowhere (told.Accepted number) ds is filtered = absurd cc
answer-nowhere told.Filtered ds is filtered = is
answer-nowhere (told.Refused cause) ds is filtered = absurd is
answer-nowhere (told.Repeat place) ds is filtered = absurd is

answered : (t : Told) (ds : List Delivery) → is_kept t ≡ true → (t ≡ told.Filtered → ds ≡ []) → IsAnswered t ds
answered (told.Accepted number) ds kept nowhere = tt
answered told.Filtered ds kept nowhere = nowhere refl
answered (told.Refused cause) ds kept nowhere = absurd cc
answered (told.Repeat place) ds kept nowhere = absurd cc

module _ (plan : PlanEntry) (places : ℕ) (r : Remembered) where
  pub in-order : r.channel < 64 → r.place < places → IsBlockData r.raw → AreDeliveries r.deliveries → IsAnswered r.told r.deliveries
      → map (λ s. s.destination) r.slots ≡ destinations_of r.deliveries → list_all (slot_rests plan) r.slots ≡ true → IsInOrder plan places r
  in-order channel place fits goes answers slots rest = record {
    memory = record {
      fits = fits;
      kept = answer-kept r.told r.deliveries answers;
      nowhere = answer-nowhere r.told r.deliveries answers;
      deliveries = goes;
      slots = slots;
      attempts = λ k s inside. rest-within (attempts_max plan _) _ (AllPass-from_list_all (slot_rests plan) r.slots rest k s inside);
    };
    channel = channel;
    place = place;
    settled = λ k s inside. rest-still (attempts_max plan _) _ (AllPass-from_list_all (slot_rests plan) r.slots rest k s inside);
  }

  pub order-answered : IsInOrder plan places r → IsAnswered r.told r.deliveries
  order-answered is = answered r.told r.deliveries is.memory.kept is.memory.nowhere

  pub order-rests : IsInOrder plan places r → list_all (slot_rests plan) r.slots ≡ true
  order-rests is =
      list_all-from_AllPass (slot_rests plan) r.slots (λ k s inside. within-rest (attempts_max plan _) _ (is.memory.attempts k s inside) (is.settled k s inside))

-- ---- an opening

module _ (o : Snapshot) where
  -- no more arrivals are remembered than any opening can have
  pub few-tested : IsBounded o → All (IsInOrder o.plan o.places) o.remembered → IsStrictlyIncreasing (map (λ r. r.place) o.remembered)
      → length o.remembered ≤ 1001000000
  few-tested bounds arrivals rise =
      let few = places-few o rise (All-weaker (IsInOrder o.plan o.places) (λ r. r.place < o.places) (λ r is. is.place) o.remembered arrivals) in
      omega (arith, bounds.places_few, bounds.prunings_few)

  pub ordered-tested : (gone : ℕ) → IsBounded o → All (IsInOrder o.plan o.places) o.remembered → gone + length (filter_map number_of o.remembered) ≡ o.messages
      → AreLast o.messages (filter_map number_of o.remembered) → list_all (channel_fits o.places) o.forgotten.channels ≡ true
      → list_all (destination_fits o.places gone) o.forgotten.destinations ≡ true → remembered_owed o.plan o.remembered ≤ o.events_max → IsOrdered o
  ordered-tested gone bounds arrivals first last channels destinations room =
      let same : gone ≡ o.messages - length (filter_map number_of o.remembered) = omega arith in record {
        bounds = bounds;
        arrivals = arrivals;
        numbers = last;
        channels = channels;
        destinations = subst (λ (g : ℕ). list_all (destination_fits o.places g) o.forgotten.destinations ≡ true) same destinations;
        room = room;
      }

  -- the destinations fit, by the number of the first message that is remembered
  pub destinations-tested : (gone : ℕ) → gone + length (filter_map number_of o.remembered) ≡ o.messages → IsOrdered o
      → list_all (destination_fits o.places gone) o.forgotten.destinations ≡ true
  destinations-tested gone first ordered =
      let same : o.messages - length (filter_map number_of o.remembered) ≡ gone = omega arith in
      subst (λ (g : ℕ). list_all (destination_fits o.places g) o.forgotten.destinations ≡ true) same ordered.destinations
