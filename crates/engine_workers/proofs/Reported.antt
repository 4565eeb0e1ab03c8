-- What is known of a desk once there is a report.
use Rattle.std.proofs.Common.{◌≡◌, false, Option, None, Some, refl}
use Rattle.std.proofs.Math.Logic.{∥∥₁_map}
use Rattle.std.specs.Prelude.{is_some}
use Rattle.std.specs.Global.{Vec}
use Rattle.event_log.specs.History.{History}
use Rattle.book_core.specs.declared.receipt.Receipt.{Receipt}
use Rattle.book_lock.specs.Log.{SeatView}
use Rattle.conn_worker.specs.Arriving.{BooksInLog}
use Rattle.conn_worker.specs.declared.report.ServeReport.{ServeReport}
use Rattle.engine_workers.specs.inner.Works.{HasServed}

-- served once
pub served_once : (opening : History) (old new : SeatView) (before : Option (ServeReport (Vec Receipt))) (r : ServeReport (Vec Receipt)) → is_some before ≡ false
    → ∥ HasServed opening old before ∥₁ → BooksInLog opening old new r.receipts.items → ∥ HasServed opening new (Some r) ∥₁
served_once opening old new None r none unused books = ∥∥₁_map unused (λ u. (record { first = old; last = new; receipts = r.receipts.items; unused = u; books = books }, refl, refl))
served_once opening old new (Some b) r none unused books = absurd cc
