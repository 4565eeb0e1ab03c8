use Rattle.std.proofs.Common.{sym, ◌∙◌}
use Rattle.conn_worker.specs.declared.report.ServeEnd.TheVariants.{NoMemory}
use Rattle.conn_worker.proofs.Pieces.{serves_nothing, handling_other}
use Rattle.conn_worker.proofs.session.serve_within.Goals as goal

pub returns-in_default-clause-served : goal.returns-in_default-clause-served
returns-in_default-clause-served g c =
    let t = c.new-in_default.ensures in
    serves_nothing _ _ _ _ _ t.receipts (g.met.B.Booking.nothing _) t.unbooked t.unreadable_ones t.stray_ones t.broken_ones (λ e. handling_other NoMemory tt (sym t.end ∙ e))
