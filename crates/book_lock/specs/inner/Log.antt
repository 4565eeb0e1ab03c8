-- What proofs use beside the page Log.
use Rattle.std.specs.Prelude.{◌≢◌, ℕ, List, [], All, AllPairs, map}
use Rattle.std.specs.List.{range_with_len}
use Rattle.ghost_log.specs.Seats.{Agrees}
use Rattle.book_lock.specs.Log.{Log, SeatView}
use Rattle.book_lock.specs.Shares.{DeskView, StationView}

-- new seats with these numbers, which have seen nothing
abbrev pub new_seats : ℕ → ℕ → List SeatView
new_seats from count = map (λ k. record { number = k; seen = [] }) (range_with_len from count)

-- the seat of a desk and of a station, as a log holds it
abbrev pub desk_seat : DeskView → ℕ × Log
desk_seat d = (d.seat.number, d.seat.seen)

abbrev pub station_seat : StationView → ℕ × Log
station_seat s = (s.seat.number, s.seat.seen)

-- seats that agree with a log, of which no two have the same number
pub record AreInLog (entries : Log) (held : List (ℕ × Log)) : Type 0 where
  pub agreed : All (λ s. Agrees s.0 s.1 entries) held
  pub apart : AllPairs (λ s t. s.0 ≢ t.0) held
