-- An opening that a book can go on from.
use Rattle.std.specs.Prelude.{◌≡◌, ◌<◌, ◌≤◌, ℕ, true, false, List, length, All}
use Rattle.judge_core.specs.Judging.{is_bookable}
use Rattle.event_log.specs.History.{Remembered, Snapshot, control_id_of}
use Rattle.event_log.specs.Room.{is_in_flight}
use Rattle.event_log.specs.inner.Legal.{IsGoodOpening}

-- a text is a message that is booked when it arrives: it has a header, is no acknowledgment, and its control id (MSH-10) has at
-- most 199 bytes
pub record IsMessage (raw : List ℕ) : Type 0 where
  pub bookable : is_bookable raw ≡ true
  pub control_id : length (control_id_of raw) ≤ 199

-- a book can go on with a remembered arrival: it is of one of 64 channels, a message, and none of its deliveries is under way
pub record IsAtRest (r : Remembered) : Type 0 where
  pub channel : r.channel < 64
  pub message : IsMessage r.raw
  pub settled : All (λ s. is_in_flight s.state ≡ false) r.slots

-- a book can go on from an opening: it is a good one, it can go on with each arrival, and the bound of its entries is one
-- that a book can have
pub record IsResumable (opening : Snapshot) : Type 0 where
  pub good : IsGoodOpening opening
  pub at_rest : All IsAtRest opening.remembered
  pub events_few : opening.events_max ≤ 1000000
