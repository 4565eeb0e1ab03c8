use Rattle.book_recovery.proofs.Files.{goes_on_written, no_record}
use Rattle.book_recovery.proofs.Prefaces.{back, no_header, only}
use Rattle.book_recovery.proofs.laws.preface_rules.Goals as goal

pub returns-clause-back : goal.returns-clause-back
returns-clause-back c = back

pub returns-clause-only : goal.returns-clause-only
returns-clause-only c = only

pub returns-clause-no_header : goal.returns-clause-no_header
returns-clause-no_header c = no_header

pub returns-clause-no_record : goal.returns-clause-no_record
returns-clause-no_record c = no_record

pub returns-clause-written : goal.returns-clause-written
returns-clause-written c = goes_on_written
