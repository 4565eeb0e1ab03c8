use Rattle.opening_records.proofs.Back.{opening_again}
use Rattle.opening_records.proofs.Only.{opening_only}
use Rattle.opening_records.proofs.Openings.{one_opening}
use Rattle.opening_records.proofs.laws.opening_rules.Goals as goal

pub returns-clause-back : goal.returns-clause-back
returns-clause-back c = opening_again

pub returns-clause-only : goal.returns-clause-only
returns-clause-only c = λ bytes w are e. (opening_only bytes w are e).is

pub returns-clause-one_opening : goal.returns-clause-one_opening
returns-clause-one_opening c = one_opening
