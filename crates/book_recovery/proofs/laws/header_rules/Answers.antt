use Rattle.book_recovery.proofs.Codec.{back, fits, only}
use Rattle.book_recovery.proofs.laws.header_rules.Goals as goal

pub returns-clause-back : goal.returns-clause-back
returns-clause-back c = back

pub returns-clause-only : goal.returns-clause-only
returns-clause-only c = only

pub returns-clause-fits : goal.returns-clause-fits
returns-clause-fits c = fits
