use Rattle.book_recovery.specs.inner.File.{bodies_of}
use Rattle.service_store.proofs.start.recover_rows.Goals as goal

pub returns-in-Err-clause-failure : goal.returns-in-Err-clause-failure
returns-in-Err-clause-failure g c = c.of_recovery.ensures (bodies_of c.args.rows.now) c.in-Err.ensures.failure
