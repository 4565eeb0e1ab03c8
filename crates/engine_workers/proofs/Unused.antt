-- Desks and stations of a book that was just shared.
pub use Rattle.delivery_worker.proofs.Unused.{unused_seats}
