-- What remains of a pruned history is good to go on from.
use Rattle.std.proofs.Common.{◌≡◌, ℕ, ◌+◌, ◌<◌, inl, inr, Bool, true, false, cond, not, ◌==◌, ◌||◌, List, [], ◌∷◌, length, map, take, Option, None, Some, refl, sym, ◌∙◌, ap, subst, arith, suc, zero}
use Rattle.std.specs.Prelude.{All, IfSome, slice_get, slice_index, sum_by}
use Rattle.std.specs.List.{AllByRecursion, cons_option, range_with_len}
use Rattle.std.specs.Option.{option_map_or}
use Rattle.std.specs.List.Sorted.{IsStrictlyIncreasing}
use Rattle.std.proofs.lemmas.Bool.Decides.{nat_tests}
use Rattle.std.proofs.lemmas.List.Elements.{All-from_recursion, recursion_from_All}
use Rattle.mllp_frame.specs.Framing.{IsBlockData}
use Rattle.plan_text.specs.Entries.{PlanEntry}
use Rattle.judge_core.specs.declared.delivery.Delivery.{Delivery}
use Rattle.judge_core.specs.Delivering.{destinations_of}
use Rattle.judge_core.specs.inner.Delivering.{AreDeliveries}
use Rattle.dest_queue.specs.declared.SlotState.{SlotState}
use Rattle.dest_queue.specs.declared.SlotState.TheVariants.{Waiting, InFlight, Delivered, Failed}
use Rattle.dest_queue.specs.States.{is_live}
use Rattle.dest_queue.specs.declared.slots.Slot.{Slot}
use Rattle.event_log.specs.declared.entry.Entry.{Entry}
use Rattle.event_log.specs.declared.entry.Entry.TheVariants.{Arrival, Take, Settle, Cancel, Deploy}
use Rattle.event_log.specs.declared.entry.Told.{Told}
use Rattle.event_log.specs.declared.entry.Told.TheVariants as told
use Rattle.event_log.specs.Answers.{attempts_max, is_kept}
use Rattle.event_log.specs.Folding.{known_arrivals, folded, is_forgotten, prune_answer, pruned, recalled, told_deliveries, told_slots}
use Rattle.event_log.specs.History.{History, Remembered, deliveries, message_count, names, plan_in_force, slot, state}
use Rattle.event_log.specs.Legal.{MayFollow}
use Rattle.event_log.specs.inner.Legal.{IsMemory, IsSound, IsWithin}
use Rattle.event_log.specs.Room.{message_total, owed, slot_owed, total}
use Rattle.event_log.proofs.Beginning.{no-deliveries}
use Rattle.event_log.proofs.FoldedAlike.{all-append, quiet, same-count, slot-gone, slot-kept}
use Rattle.event_log.proofs.Following.{follows-since}
use Rattle.event_log.proofs.OneMore.{lt-tells}
use Rattle.event_log.proofs.PrunedRuns.{all-filter}
use Rattle.event_log.proofs.Recalling.{arrivals-are, recalled_all, renewed}
use Rattle.event_log.proofs.RecallingKeys.{Rising, arrivals-rise, rising-filter}
use Rattle.event_log.proofs.Totals.{sum-alike}

-- ---- entries that can have come in a block

abbrev FitsBlock : Entry → Type 0
FitsBlock (Arrival conn channel raw reply) = IsBlockData raw
FitsBlock (Take ticket now) = Unit {0}
FitsBlock (Settle outcome ticket now state) = Unit {0}
FitsBlock (Cancel number among mask) = Unit {0}
FitsBlock (Deploy plan) = Unit {0}

fits-of : (h : History) (e : Entry) → MayFollow h e → FitsBlock e
fits-of h (Arrival conn channel raw reply) may = may.possible
fits-of h (Take ticket now) may = tt
fits-of h (Settle outcome ticket now state) may = tt
fits-of h (Cancel number among mask) may = tt
fits-of h (Deploy plan) may = tt

all-from-get : (P : Entry → Type 0) (es : List Entry) → ((k : ℕ) (e : Entry) → slice_get es k ≡ Some e → P e) → AllByRecursion P es
all-from-get P [] each = tt
all-from-get P (e ∷ es) each = (each 0 e refl, all-from-get P es (λ k x got. each (suc k) x got))

-- ---- rising places

increasing : (low : ℕ) (rs : List Remembered) → Rising low rs → (k : ℕ) → k + 1 < length (map (λ r. r.place) rs) → slice_index (map (λ r. r.place) rs) k < slice_index (map (λ r. r.place) rs) (k + 1)
increasing low [] rise k inside = absurd (omega arith)
increasing low (r ∷ []) rise k inside = absurd (omega arith)
increasing low (r ∷ (s ∷ rs)) rise zero inside = let first = rise.1.0 in omega arith
increasing low (r ∷ (s ∷ rs)) rise (suc k) inside =
    let next : suc (k + 1) ≡ suc k + 1 = omega arith in
    subst (λ j. slice_index (map (λ x. x.place) (s ∷ rs)) k < slice_index (map (λ x. x.place) (r ∷ (s ∷ rs))) j) next (increasing (r.place + 1) (s ∷ rs) rise.1 k (omega arith))

-- ---- what is remembered

-- the slots of deliveries
abbrev slots_at : (ℕ → SlotState) → List Delivery → List Slot
slots_at f ds = map (λ x. record { destination = x.destination; state = f x.destination }) ds

slots-for : (f : ℕ → SlotState) (ds : List Delivery) → map (λ s. s.destination) (slots_at f ds) ≡ destinations_of ds
slots-for f [] = refl
slots-for f (x ∷ ds) = ap (λ rest. x.destination ∷ rest) (slots-for f ds)

slots-within : (plan : PlanEntry) (f : ℕ → SlotState) (ds : List Delivery) → ((d : ℕ) → names d ds ≡ true → IsWithin (attempts_max plan d) (f d))
    → AllByRecursion (λ s. IsWithin (attempts_max plan s.destination) s.state) (slots_at f ds)
slots-within plan f [] each = tt
slots-within plan f (x ∷ ds) each =
    let own : (x.destination == x.destination) ≡ true = grind (arith, nat_tests) in
    (each x.destination (ap (λ b. b || names x.destination ds) own), slots-within plan f ds (λ d named. each d (ap (λ b. (x.destination == d) || b) named ∙ or-true (x.destination == d))))
  where
    or-true : (b : Bool) → (b || true) ≡ true
    or-true true = refl
    or-true false = refl

module _ (h : History) (sound : IsSound h) where
  told-good : (t : Told) → AreDeliveries (told_deliveries h t)
  told-good (told.Accepted n) = sound.deliveries n
  told-good told.Filtered = no-deliveries
  told-good (told.Refused cause) = no-deliveries
  told-good (told.Repeat place) = no-deliveries

  told-slots : (t : Told) → map (λ s. s.destination) (told_slots h t) ≡ destinations_of (told_deliveries h t)
  told-slots (told.Accepted n) = slots-for (state h n) (deliveries h n)
  told-slots told.Filtered = refl
  told-slots (told.Refused cause) = refl
  told-slots (told.Repeat place) = refl

  told-within : (t : Told) → AllByRecursion (λ s. IsWithin (attempts_max (plan_in_force h) s.destination) s.state) (told_slots h t)
  told-within (told.Accepted n) =
      slots-within (plan_in_force h) (state h n) (deliveries h n)
      (λ d named. subst (λ b. IfSome (cond b (Some (state h n d)) None) (IsWithin (attempts_max (plan_in_force h) d))) named (sound.attempts n d))
  told-within told.Filtered = tt
  told-within (told.Refused cause) = tt
  told-within (told.Repeat place) = tt

  memory-of : (place channel : ℕ) (raw : List ℕ) (t : Told) → IsBlockData raw → is_kept t ≡ true → IsMemory (plan_in_force h) (recalled h place channel raw t)
  memory-of place channel raw t fits kept = record {
    fits = fits;
    kept = kept;
    nowhere = λ is. ap (told_deliveries h) is;
    deliveries = told-good t;
    slots = told-slots t;
    attempts = All-from_recursion (λ s. IsWithin (attempts_max (plan_in_force h) s.destination) s.state) (told_slots h t) (told-within t);
  }

  memories-before : (rs : List Remembered) → AllByRecursion (IsMemory h.opening.plan) rs → AllByRecursion (IsMemory (plan_in_force h)) (map (renewed h) rs)
  memories-before [] all = tt
  memories-before (r ∷ rs) all = (memory-of r.place r.channel r.raw r.told all.0.fits all.0.kept, memories-before rs all.1)

  memories-since : (a : ℕ) (es : List Entry) → AllByRecursion FitsBlock es → AllByRecursion (IsMemory (plan_in_force h)) (recalled_all h a es)
  memories-since a [] all = tt
  memories-since a (Arrival conn channel raw reply ∷ es) all = by (is_kept reply) refl (memories-since (a + 1) es all.1)
    where
      by : (b : Bool) → is_kept reply ≡ b → AllByRecursion (IsMemory (plan_in_force h)) (recalled_all h (a + 1) es)
          → AllByRecursion (IsMemory (plan_in_force h)) (cons_option (cond b (Some (recalled h a channel raw reply)) None) (recalled_all h (a + 1) es))
      by true is rest = (memory-of a channel raw reply all.0 is, rest)
      by false is rest = rest
  memories-since a (Take ticket now ∷ es) all = memories-since (a + 1) es all.1
  memories-since a (Settle outcome ticket now state ∷ es) all = memories-since (a + 1) es all.1
  memories-since a (Cancel number among mask ∷ es) all = memories-since (a + 1) es all.1
  memories-since a (Deploy plan ∷ es) all = memories-since (a + 1) es all.1

  -- each arrival that is kept can be remembered
  pub arrivals-good : AllByRecursion (IsMemory (plan_in_force h)) (known_arrivals h)
  arrivals-good =
      subst (AllByRecursion (IsMemory (plan_in_force h))) (sym (arrivals-are h))
      (all-append (IsMemory (plan_in_force h)) (map (renewed h) h.opening.remembered) (recalled_all h h.opening.places h.entries)
      (memories-before h.opening.remembered (recursion_from_All (IsMemory h.opening.plan) h.opening.remembered sound.opening.memories))
      (memories-since h.opening.places h.entries (all-from-get FitsBlock h.entries (λ k e got. fits-of (record { opening = h.opening; entries = take k h.entries }) e (follows-since h sound.legal k e got)))))

  pub folded-memories : (bound : ℕ) → All (IsMemory (plan_in_force h)) (folded bound h).remembered
  folded-memories bound =
      All-from_recursion (IsMemory (plan_in_force h)) (folded bound h).remembered (all-filter (IsMemory (plan_in_force h)) (λ r. not (is_forgotten h bound r)) (known_arrivals h) arrivals-good)

  pub folded-places : (bound : ℕ) → IsStrictlyIncreasing (map (λ r. r.place) (folded bound h).remembered)
  folded-places bound = increasing 0 (folded bound h).remembered (rising-filter (λ r. not (is_forgotten h bound r)) 0 (known_arrivals h) (arrivals-rise h sound))

-- ---- room

-- a settled slot owes nothing
settled-owes : (max : ℕ) (o : Option SlotState) → option_map_or is_live o false ≡ false → option_map_or (slot_owed max) o 0 ≡ 0
settled-owes max None quiet = refl
settled-owes max (Some (Waiting attempts due)) quiet = absurd cc
settled-owes max (Some (InFlight attempt)) quiet = absurd cc
settled-owes max (Some Delivered) quiet = refl
settled-owes max (Some (Failed cause)) quiet = refl

module _ (h : History) (sound : IsSound h) (bound : ℕ) (may : prune_answer h bound ≡ None) where
  -- each slot owes what it owed
  owes-same : (n d : ℕ) → option_map_or (slot_owed (attempts_max (plan_in_force h) d)) (slot (pruned bound h) n d) 0 ≡ option_map_or (slot_owed (attempts_max (plan_in_force h) d)) (slot h n d) 0
  owes-same n d = elim (lt-tells n bound) [
    | inl w ↦
        ap (λ o. option_map_or (slot_owed (attempts_max (plan_in_force h) d)) o 0) (slot-gone h sound bound may n d w.1)
        ∙ sym (settled-owes (attempts_max (plan_in_force h) d) (slot h n d) (quiet h sound bound may n d w.1))
    | inr w ↦ ap (λ o. option_map_or (slot_owed (attempts_max (plan_in_force h) d)) o 0) (slot-kept h sound bound may n d w.1)
  ]

  -- as much is owed as before
  pub folded-owed : owed (pruned bound h) ≡ owed h
  unfolding total
  folded-owed =
      let weight : ℕ → SlotState → ℕ = λ d. slot_owed (attempts_max (plan_in_force h) d) in
      ap (λ k. sum_by (λ n. message_total weight (slot (pruned bound h) n)) (range_with_len 0 k)) (same-count h sound bound may)
      ∙ sum-alike (λ n. message_total weight (slot h n)) (λ n. message_total weight (slot (pruned bound h) n)) 0 (message_count h)
      (λ n low below. sum-alike (λ d. option_map_or (weight d) (slot h n d) 0) (λ d. option_map_or (weight d) (slot (pruned bound h) n d) 0) 0 32 (λ d least inside. owes-same n d))
