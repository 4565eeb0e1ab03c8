-- What is known of a desk, and of the report of its work.
use Rattle.std.specs.Prelude.{◌≡◌, Option, None, Some}
use Rattle.std.specs.Global.{Vec}
use Rattle.event_log.specs.History.{History}
use Rattle.book_core.specs.declared.receipt.Receipt.{Receipt}
use Rattle.book_lock.specs.Log.{SeatView}
use Rattle.conn_worker.specs.declared.report.ServeReport.{ServeReport}
use Rattle.delivery_worker.specs.Sent.{DeskWork, IsUnused}

-- nothing was booked at a desk without a report; with one, the arrivals of its receipts were, and nothing else was
abbrev pub HasServed : History → SeatView → Option (ServeReport (Vec Receipt)) → Type 0
HasServed opening seat None = IsUnused seat
HasServed opening seat (Some r) =
    (work : DeskWork opening) × (work.last ≡ seat) × (work.receipts ≡ r.receipts.items)
