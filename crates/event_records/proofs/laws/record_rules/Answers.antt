use Rattle.event_records.proofs.Back.{back, batch_back}
use Rattle.event_records.proofs.Only.{only, batch_only}
use Rattle.event_records.proofs.laws.record_rules.Goals as goal

pub returns-clause-back : goal.returns-clause-back
returns-clause-back c = back

pub returns-clause-batch_back : goal.returns-clause-batch_back
returns-clause-batch_back c = batch_back

pub returns-clause-only : goal.returns-clause-only
returns-clause-only c = only

pub returns-clause-batch_only : goal.returns-clause-batch_only
returns-clause-batch_only c = batch_only
