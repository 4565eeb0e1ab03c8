-- What contracts see of a desk and of a station.
use Rattle.std.specs.Prelude.{ℕ, List, ◌++◌, map, sum_by}
use Rattle.book_lock.specs.Log.{SeatView}

-- the takes and the settlements that were made at a station
pub record Made : Type 0 where
  pub takes : ℕ
  pub settlements : ℕ

-- a desk: how many arrivals were booked at it, how many plans had been deployed, in all, when it was last given the plan to
-- judge by, and its seat
pub record DeskView : Type 0 where
  pub made : ℕ
  pub deployed : ℕ
  pub seat : SeatView

-- a station: how many takes and settlements were made at it, and its seat
pub record StationView : Type 0 where
  pub counts : Made
  pub seat : SeatView

-- the arrivals that were booked at these desks
abbrev pub arrivals_of : List DeskView → ℕ
arrivals_of desks = sum_by (λ d. d.made) desks

-- the takes and the settlements that were made at these stations
abbrev pub takes_of : List StationView → ℕ
takes_of stations = sum_by (λ s. s.counts.takes) stations

abbrev pub settlements_of : List StationView → ℕ
settlements_of stations = sum_by (λ s. s.counts.settlements) stations

-- the seats of desks and of stations
abbrev pub seats_of : List DeskView → List StationView → List SeatView
seats_of desks stations = map (λ d. d.seat) desks ++ map (λ s. s.seat) stations
