use Rattle.restart_laws.proofs.Redoing.{all_answered, all_redone, copied}
use Rattle.restart_laws.proofs.Beginnings.{beginning, committed, covered}
use Rattle.restart_laws.proofs.laws.restart_rules.Goals as goal

pub returns-clause-same : goal.returns-clause-same
returns-clause-same c = all_redone

pub returns-clause-replayed : goal.returns-clause-replayed
returns-clause-replayed c = all_answered

pub returns-clause-beginning : goal.returns-clause-beginning
returns-clause-beginning c = beginning

pub returns-clause-covered : goal.returns-clause-covered
returns-clause-covered c = covered

pub returns-clause-copied : goal.returns-clause-copied
returns-clause-copied c = copied

pub returns-clause-committed : goal.returns-clause-committed
returns-clause-committed c = committed
