-- What a plan says.
use Rattle.std.specs.Prelude.{◌≢◌, ℕ, ◌<◌, ◌≤◌, List, length, codes, Bool, true, not, ◌&&◌, ◌==◌, Option, IsTrue, IfSome, All, AllPairs}
use Rattle.std.specs.List.{list_any, list_all}
use Rattle.std.specs.Str.{bytes_eq}
use Rattle.hl7_filter.specs.Condition.{Condition, nesting}
use Rattle.hl7_transform.specs.Check.{may_stand}
use Rattle.hl7_transform.specs.Step.{Edit}
use Rattle.plan_text.specs.declared.destination.Await.{Await}
use Rattle.plan_text.specs.declared.channel.MessageType.{MessageType}
use Rattle.plan_text.specs.declared.channel.MessageType.TheVariants as type
use Rattle.plan_text.specs.declared.channel.ProcessingId.{ProcessingId}
use Rattle.plan_text.specs.declared.channel.ProcessingId.TheVariants as processing
use Rattle.plan_text.specs.declared.channel.VersionId.{VersionId}
use Rattle.plan_text.specs.declared.channel.VersionId.TheVariants as version

-- a peer that messages go to; interval and timeout in seconds
pub record DestinationEntry : Type 0 where
  pub name : List ℕ
  pub address : List ℕ
  pub attempts : ℕ
  pub interval : ℕ
  pub timeout : ℕ
  pub wait : Await

-- a way to the destination with the index `to`, for messages that pass the filter (none lets all pass), and their steps
pub record RouteEntry : Type 0 where
  pub to : ℕ
  pub filter : Option Condition
  pub steps : List Edit

-- a listener, which messages it takes, which of them pass, their steps, and where they go
pub record ChannelEntry : Type 0 where
  pub name : List ℕ
  pub listen : List ℕ
  pub types : List MessageType
  pub processing : List ProcessingId
  pub versions : List VersionId
  pub filter : Option Condition
  pub steps : List Edit
  pub routes : List RouteEntry

pub record PlanEntry : Type 0 where
  pub destinations : List DestinationEntry
  pub channels : List ChannelEntry

-- the entry means a message of this code and trigger event (MSH-9.1, MSH-9.2)
abbrev pub matches_type : List ℕ → List ℕ → MessageType → Bool
matches_type code event type.Any = not (length code == 0)
matches_type code event (type.Code c) = bytes_eq code c
matches_type code event (type.CodeAndEvent c e) = bytes_eq code c && bytes_eq event e

-- table 0103: the letter of a processing id (MSH-11.1)
abbrev pub processing_code : ProcessingId → List ℕ
processing_code processing.Production = codes "P"
processing_code processing.Training = codes "T"
processing_code processing.Debugging = codes "D"

abbrev pub matches_processing : List ℕ → ProcessingId → Bool
matches_processing code id = bytes_eq code (processing_code id)

-- the entry means a message of this version (MSH-12.1)
abbrev pub matches_version : List ℕ → VersionId → Bool
matches_version code version.Any = true
matches_version code (version.Exactly v) = bytes_eq code v

-- a channel takes what an entry of its list means
abbrev pub takes_type : ChannelEntry → List ℕ → List ℕ → Bool
takes_type c code event = list_any (matches_type code event) c.types

abbrev pub takes_processing : ChannelEntry → List ℕ → Bool
takes_processing c code = list_any (matches_processing code) c.processing

abbrev pub takes_version : ChannelEntry → List ℕ → Bool
takes_version c code = list_any (matches_version code) c.versions

-- a destination whose numbers are within their bounds
pub record IsDestination (d : DestinationEntry) : Type 0 where
  pub tried : 1 ≤ d.attempts
  pub attempts : d.attempts ≤ 100
  pub interval : d.interval ≤ 86400
  pub waited : 1 ≤ d.timeout
  pub timeout : d.timeout ≤ 3600

-- a filter whose conditions are at most 16 deep
abbrev pub IsShallow : Option Condition → Type 0
IsShallow filter = IfSome filter (λ c. nesting c ≤ 16)

-- steps that a transformer may have: none writes MSH-1, MSH-2 or MSH-10
abbrev pub AllStand : List Edit → Type 0
AllStand steps = IsTrue (list_all may_stand steps)

-- a channel whose routes lead to different destinations of these, with no filter too deep and no step that a
-- transformer may not have
pub record IsChannel (destinations : List DestinationEntry) (c : ChannelEntry) : Type 0 where
  pub shallow : IsShallow c.filter
  pub stand : AllStand c.steps
  pub routes_lead : All (λ r. r.to < length destinations) c.routes
  pub routes_apart : AllPairs (λ r s. r.to ≢ s.to) c.routes
  pub routes_shallow : All (λ r. IsShallow r.filter) c.routes
  pub routes_stand : All (λ r. AllStand r.steps) c.routes

-- what holds of every plan
pub record IsPlan (p : PlanEntry) : Type 0 where
  pub few_destinations : length p.destinations ≤ 32
  pub few_channels : length p.channels ≤ 64
  pub some_channel : 1 ≤ length p.channels
  pub each_destination : All IsDestination p.destinations
  pub each_channel : All (IsChannel p.destinations) p.channels
  pub destination_names : AllPairs (λ d e. d.name ≢ e.name) p.destinations
  pub channel_names : AllPairs (λ c d. c.name ≢ d.name) p.channels
