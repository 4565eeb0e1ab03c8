-- Which bytes are those of an opening.
use Rattle.std.specs.Prelude.{◌≡◌, ℕ, ◌<◌, ◌^◌, List, ◌++◌, length, map, IsUtf8, Ok, All}
use Rattle.std.specs.List.{AllByRecursion}
use Rattle.std.specs.List.Sorted.{IsStrictlyIncreasing}
use Rattle.plan_text.specs.Document.{plan_in}
use Rattle.judge_core.specs.declared.delivery.Delivery.{Delivery}
use Rattle.judge_core.specs.inner.Delivering.{AreDeliveries}
use Rattle.dest_queue.specs.declared.slots.Slot.{Slot}
use Rattle.stat_count.specs.declared.ChannelCounts.{ChannelCounts}
use Rattle.stat_count.specs.declared.DestinationCounts.{DestinationCounts}
use Rattle.stat_count.specs.inner.Statistics.{IsStatistics}
use Rattle.event_log.specs.History.{Remembered, Snapshot}
use Rattle.opening_records.specs.declared.head.Head.{Head}
use Rattle.event_records.specs.inner.Fields.{told_number}
use Rattle.opening_records.specs.inner.Encoding.{Written, channel_numbers, destination_numbers, opening_bytes, own_text, state_due, state_number}

-- ---- what has an encoding: numbers and texts as wide as their fields

-- numbers of eight bytes
abbrev pub AreWide : List ℕ → Type 0
AreWide numbers = AllByRecursion (λ n. n < 2 ^ 64) numbers

-- a slot at one of 32 destinations
pub record IsSlot (s : Slot) : Type 0 where
  pub destination : s.destination < 32
  pub number : state_number s.state < 2 ^ 32
  pub due : state_due s.state < 2 ^ 64

-- a delivery whose text is shorter than 4 GiB, or the text received
pub record IsDeliveryOf (raw : List ℕ) (x : Delivery) : Type 0 where
  pub destination : x.destination < 2 ^ 32
  pub text : length (own_text raw x.payload) < 2 ^ 32

-- a remembered arrival that goes to destinations as a message may
pub record IsRemembered (r : Remembered) : Type 0 where
  pub number : told_number r.told < 2 ^ 32
  pub place : r.place < 2 ^ 64
  pub channel : r.channel < 2 ^ 32
  pub raw : length r.raw < 2 ^ 32
  pub deliveries : AllByRecursion (IsDeliveryOf r.raw) r.deliveries
  pub goes : AreDeliveries r.deliveries
  pub slots : AllByRecursion IsSlot r.slots
  pub few_slots : length r.slots < 2 ^ 32

-- the numbers of an opening
pub record IsHead (h : Head) : Type 0 where
  pub events_max : h.events_max < 2 ^ 32
  pub places : h.places < 2 ^ 64
  pub messages : h.messages < 2 ^ 32
  pub deployments : h.deployments < 2 ^ 32
  pub prunings : h.prunings < 2 ^ 32

-- an opening whose numbers and texts fit
pub record Fits (w : Written) : Type 0 where
  pub head : IsHead w.head
  pub document : length w.document < 2 ^ 32
  pub channels : AllByRecursion (λ c. AreWide (channel_numbers c)) w.channels
  pub few_channels : length w.channels < 2 ^ 32
  pub destinations : AllByRecursion (λ c. AreWide (destination_numbers c)) w.destinations
  pub few_destinations : length w.destinations < 2 ^ 32
  pub remembered : AllByRecursion IsRemembered w.remembered
  pub few_remembered : length w.remembered < 2 ^ 32

-- ---- openings

-- the numbers of an opening
abbrev pub head_of : Snapshot → Head
head_of o = record { events_max = o.events_max; places = o.places; messages = o.messages; deployments = o.deployments; prunings = o.prunings }

-- an opening with another bound of its entries
abbrev pub with_bound : ℕ → Snapshot → Snapshot
with_bound events_max o = record o { events_max = events_max }

-- an opening with a document of its plan
abbrev pub written : List ℕ → Snapshot → Written
written document o = record {
  head = head_of o;
  document = document;
  channels = o.forgotten.channels;
  destinations = o.forgotten.destinations;
  remembered = o.remembered;
}

-- a document is one of the plan of an opening
pub record IsDocumentOf (o : Snapshot) (document : List ℕ) : Type 0 where
  pub text : IsUtf8 document
  pub plan : plan_in document ≡ Ok o.plan

-- what holds of each opening: the rules of its counters, and indices that increase
pub record IsOrderly (o : Snapshot) : Type 0 where
  pub counters : IsStatistics o.forgotten
  pub places : IsStrictlyIncreasing (map (λ r. r.place) o.remembered)

-- bytes are those of an opening, by a document of its plan
pub record IsEncodingBy (document : List ℕ) (o : Snapshot) (bytes : List ℕ) : Type 0 where
  pub plan : IsDocumentOf o document
  pub fits : Fits (written document o)
  pub is : bytes ≡ opening_bytes (written document o)

abbrev pub IsEncoding : Snapshot → List ℕ → Type 0
IsEncoding o bytes = (document : List ℕ) × IsEncodingBy document o bytes

-- new is old with the bytes of an opening behind it
abbrev pub IsAppended : Snapshot → List ℕ → List ℕ → Type 0
IsAppended o old new = (bytes : List ℕ) × IsEncoding o bytes × (new ≡ old ++ bytes)

-- an opening that has no encoding by a document of its plan
abbrev pub IsTooLong : Snapshot → Type 0
IsTooLong o = (document : List ℕ) × IsDocumentOf o document × (¬ (Fits (written document o)))
