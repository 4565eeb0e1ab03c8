use Rattle.std.proofs.Common.{subst}
use Rattle.book_recovery.specs.inner.File.{IsFailure}
use Rattle.service_store.proofs.fault.BookFault.of_recovery.Goals as goal

pub returns-in-Stopped : goal.returns-in-Stopped
returns-in-Stopped c bodies is = c.stopped.ensures bodies (subst (IsFailure bodies) c.in-Stopped.is is)
