use Rattle.book_recovery.proofs.Files.{apart, not_refused, one, written}
use Rattle.book_recovery.proofs.laws.recovery_rules.Goals as goal

pub returns-clause-apart : goal.returns-clause-apart
returns-clause-apart c = apart

pub returns-clause-written : goal.returns-clause-written
returns-clause-written c = written

pub returns-clause-one : goal.returns-clause-one
returns-clause-one c = one

pub returns-clause-not_refused : goal.returns-clause-not_refused
returns-clause-not_refused c = not_refused
