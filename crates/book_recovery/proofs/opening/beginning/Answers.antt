use Rattle.book_recovery.specs.inner.Header.{contents_of}
use Rattle.book_recovery.proofs.Files.{no_connection}
use Rattle.book_recovery.proofs.opening.beginning.Goals as goal

pub returns-in-Ok-headed-clause-connection : goal.returns-in-Ok-headed-clause-connection
returns-in-Ok-headed-clause-connection g c = no_connection c.args.first.now (contents_of c.in-Ok.header) c.in-Ok.ensures.encoded
