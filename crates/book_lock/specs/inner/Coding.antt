-- How shared books are distinguished.
use Rattle.std.specs.Prelude.{ℕ, refl}
use Rattle.std.specs.Coded.{Coded, code_by, coded×, coded_ℕ, coded_list}
use Rattle.stat_count.specs.Statistics.{Statistics}
use Rattle.event_log.specs.inner.Coding.{history_code, statistics_code}
use Rattle.event_log.specs.History.{History}
use Rattle.book_lock.specs.contracts.log_entry.LogEntry as log_entry
use Rattle.book_lock.specs.Log.{Log, SeatView}
use Rattle.book_lock.specs.Rises.{SharedBook}
use Rattle.book_lock.specs.Shares.{DeskView, StationView}

-- a shared book as the book, the statistics and the next index that it had when it was shared, and the connections
-- admitted since
abbrev pub held_code : Coded SharedBook
held_code =
    code_by (History × (Statistics × (ℕ × ℕ))) (coded× history_code (coded× statistics_code (coded× coded_ℕ coded_ℕ)))
    (λ h. (h.book, (h.opening, (h.first, h.admitted))))
    (λ p. record { book = p.0; opening = p.1.0; first = p.1.1.0; admitted = p.1.1.1 }) (λ _. refl)

-- a seat as its number and what it has seen
abbrev pub seat_code : Coded SeatView
seat_code =
    code_by (ℕ × Log) (coded× coded_ℕ (coded_list (coded× coded_ℕ log_entry.the_row.coded)))
    (λ s. (s.number, s.seen)) (λ p. record { number = p.0; seen = p.1 }) (λ _. refl)

-- a desk as its arrivals, the number of deployments that it remembers, and its seat
abbrev pub desk_code : Coded DeskView
desk_code =
    code_by (ℕ × (ℕ × SeatView)) (coded× coded_ℕ (coded× coded_ℕ seat_code))
    (λ d. (d.made, (d.deployed, d.seat)))
    (λ p. record { made = p.0; deployed = p.1.0; seat = p.1.1 }) (λ _. refl)

-- a station as its takes, its settlements and its seat
abbrev pub station_code : Coded StationView
station_code =
    code_by (ℕ × (ℕ × SeatView)) (coded× coded_ℕ (coded× coded_ℕ seat_code))
    (λ s. (s.counts.takes, (s.counts.settlements, s.seat)))
    (λ p. record { counts = record { takes = p.0; settlements = p.1.0 }; seat = p.1.1 }) (λ _. refl)
