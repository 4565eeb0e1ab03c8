-- What proofs use beside the page Legal.
use Rattle.std.specs.Prelude.{◌≡◌, ◌<◌, ◌≤◌, ◌+◌, ◌*◌, ℕ, true, false, [], length, map, is_some, IfSome, All, AllPairs}
use Rattle.std.specs.List.{filter_map}
use Rattle.std.specs.List.Sorted.{IsStrictlyIncreasing}
use Rattle.mllp_frame.specs.Framing.{IsBlockData}
use Rattle.plan_text.specs.Entries.{IsPlan, PlanEntry}
use Rattle.judge_core.specs.Delivering.{destinations_of}
use Rattle.judge_core.specs.inner.Delivering.{AreDeliveries}
use Rattle.judge_core.specs.Judging.{key_of}
use Rattle.dest_queue.specs.declared.SlotState.{SlotState}
use Rattle.dest_queue.specs.declared.SlotState.TheVariants.{Waiting, InFlight, Delivered, Failed}
use Rattle.stat_count.specs.Statistics.{Statistics}
use Rattle.stat_count.specs.inner.Statistics.{IsStatistics}
use Rattle.event_log.specs.declared.entry.Told.TheVariants as told
use Rattle.event_log.specs.History.{History, Snapshot, Remembered, begun, deliveries, message_at, message_count, plan_in_force, slot, state}
use Rattle.event_log.specs.inner.History.{forgotten_messages, number_of}
use Rattle.event_log.specs.Answers.{attempts_max, has_key, is_kept}
use Rattle.event_log.specs.Counting.{destination_counts}
use Rattle.event_log.specs.Room.{owed}
use Rattle.event_log.specs.Legal.{IsLegal}

-- no attempt is past the last that is allowed, and a slot that waits has one left
abbrev pub IsWithin : ℕ → SlotState → Type 0
IsWithin max (Waiting attempts due) = attempts < max
IsWithin max (InFlight attempt) = attempt ≤ max
IsWithin max Delivered = Unit {0}
IsWithin max (Failed cause) = Unit {0}

-- what is remembered of an arrival, where this plan is in force: it can have been in a block, it was accepted or
-- filtered, and a filtered one goes nowhere; it has one slot for each destination that it names, within the attempts that
-- the plan allows
pub record IsMemory (plan : PlanEntry) (r : Remembered) : Type 0 where
  pub fits : IsBlockData r.raw
  pub kept : is_kept r.told ≡ true
  pub nowhere : r.told ≡ told.Filtered → r.deliveries ≡ []
  pub deliveries : AreDeliveries r.deliveries
  pub slots : map (λ s. s.destination) r.slots ≡ destinations_of r.deliveries
  pub attempts : All (λ s. IsWithin (attempts_max plan s.destination) s.state) r.slots

-- what is counted of what was folded, where that many messages are forgotten: no more than could be. No forgotten
-- message waits or is in flight, and each was delivered or failed once at most at a destination
pub record AreForgotten (places messages : ℕ) (forgotten : Statistics) : Type 0 where
  pub statistics : IsStatistics forgotten
  pub received : All (λ c. c.received + c.repeats ≤ places) forgotten.channels
  pub settled : All (λ d. (d.waiting ≡ 0) × (d.inflight ≡ 0)) forgotten.destinations
  pub named : All (λ d. d.delivered + d.failed ≤ messages) forgotten.destinations
  pub taken : All (λ d. d.attempts ≤ places) forgotten.destinations

-- an opening that a book may go on from: its plan is one; what is remembered has indices, numbers and keys of its own,
-- in order; no message is forgotten that arrived after one that is remembered; what its messages owe is within the bound;
-- no more of them were delivered or are in flight than attempts were begun
pub record IsGoodOpening (opening : Snapshot) : Type 0 where
  pub plan : IsPlan opening.plan
  pub memories : All (IsMemory opening.plan) opening.remembered
  pub places : IsStrictlyIncreasing (map (λ r. r.place) opening.remembered)
  pub places_within : All (λ r. r.place < opening.places) opening.remembered
  pub numbers : IsStrictlyIncreasing (filter_map number_of opening.remembered)
  pub numbers_within : All (λ n. n < opening.messages) (filter_map number_of opening.remembered)
  pub in_turn : (n m : ℕ) → n ≤ m → m < opening.messages →
      is_some (message_at (begun opening) n) ≡ true → is_some (message_at (begun opening) m) ≡ true
  pub keys : AllPairs (λ r s. has_key (key_of r.channel r.raw) s ≡ false) opening.remembered
  pub forgotten : AreForgotten opening.places (forgotten_messages (begun opening)) opening.forgotten
  pub were_taken : (d : ℕ) → d < 32 →
      (destination_counts (begun opening) d).inflight + (destination_counts (begun opening) d).delivered
      ≤ (destination_counts (begun opening) d).attempts
  pub messages_few : opening.messages ≤ opening.places
  pub places_few : opening.places ≤ opening.prunings * 1000000
  pub prunings_few : opening.prunings ≤ 1000
  pub room : owed (begun opening) ≤ opening.events_max

-- what follows of a legal history from a good opening: each message goes to each destination once, its attempts are within the bound
-- of the plan in force, no entry speaks of a message to come, and the entries with those owed are within the book's
pub record IsSound (h : History) : Type 0 where
  pub opening : IsGoodOpening h.opening
  pub plan : IsPlan (plan_in_force h)
  pub legal : IsLegal h
  pub deliveries : (n : ℕ) → AreDeliveries (deliveries h n)
  pub attempts : (n d : ℕ) → IfSome (slot h n d) (IsWithin (attempts_max (plan_in_force h) d))
  pub to_come : (n d : ℕ) → message_count h ≤ n → state h n d ≡ Waiting 0 0
  pub room : length h.entries + owed h ≤ h.opening.events_max
