-- What proofs use beside the page Converse.
use Rattle.std.specs.Prelude.{◌≡◌, ℕ, List, map, slice_get, Some, ⊤}
use Rattle.event_log.specs.declared.entry.Entry.{Entry}
use Rattle.event_log.specs.declared.entry.Entry.TheVariants.{Arrival, Take, Settle, Cancel, Deploy}
use Rattle.event_log.specs.declared.entry.Told.{Told}
use Rattle.event_log.specs.History.{History}
use Rattle.mllp_frame.specs.Framing.{IsData, block_bytes}
use Rattle.event_log.specs.Event.{cancel, deploy, settle, take}
use Rattle.engine_model.specs.Turn.{Turn, chunk, event}

-- the step of an entry: an arrival comes as one whole block
abbrev pub step_of : Entry → Turn
step_of (Arrival conn channel raw told) = chunk conn (block_bytes raw) 0
step_of (Take ticket now) = event (take ticket.destination now)
step_of (Settle outcome ticket now state) = event (settle ticket outcome now)
step_of (Cancel number among mask) = event (cancel number among)
step_of (Deploy plan) = event (deploy plan)

-- the steps of a history, one an entry
abbrev pub steps_of : History → List Turn
steps_of h = map step_of h.entries

-- each connection keeps to its channel in these
pub record KeepsTo (channels : List ℕ) (entries : List Entry) : Type 0 where
  pub keeps : (place conn channel : ℕ) (raw : List ℕ) (told : Told)
      → slice_get entries place ≡ Some (Arrival conn channel raw told) → slice_get channels conn ≡ Some channel

-- no connection has arrivals on two channels in these
pub record KeepToOne (entries : List Entry) : Type 0 where
  pub same : (place later conn channel other : ℕ) (raw text : List ℕ) (told reply : Told)
      → slice_get entries place ≡ Some (Arrival conn channel raw told)
      → slice_get entries later ≡ Some (Arrival conn other text reply) → channel ≡ other

-- there are channels to which the connections keep in these
pub record HaveChannels (entries : List Entry) : Type 0 where
  pub channels : List ℕ
  pub keep : KeepsTo channels entries

-- the text of an arrival can be framed
abbrev pub CameInBlock : Entry → Type 0
CameInBlock (Arrival conn channel raw told) = IsData raw
CameInBlock _ = ⊤
