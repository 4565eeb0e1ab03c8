-- What is known of a station, and of the report of its work.
use Rattle.std.specs.Prelude.{◌≡◌, ℕ, Option, None, Some}
use Rattle.event_log.specs.History.{History}
use Rattle.book_lock.specs.Log.{SeatView}
use Rattle.delivery_worker.specs.Delivering.{ReportsAttempts}
use Rattle.delivery_worker.specs.Sent.{IsUnused, StationWork}
use Rattle.delivery_worker.specs.declared.report.DeliverReport.{DeliverReport}

-- no call was made at a station without a report; with one, it made the attempts that the report counts, for this
-- destination, and made no other call
abbrev pub HasDelivered : History → ℕ → SeatView → Option DeliverReport → Type 0
HasDelivered opening d seat None = IsUnused seat
HasDelivered opening d seat (Some r) =
    (work : StationWork opening) × (work.destination ≡ d) × (work.last ≡ seat) × ReportsAttempts work.attempts r
