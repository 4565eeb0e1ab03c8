use Rattle.std.proofs.Common.{refl}
use Rattle.opening_maps.proofs.GivenBack.{all-rest, destinations-back, good-back, messages-stay, others-stay, owed-back, slots-back}
use Rattle.opening_maps.proofs.laws.given_back_rules.Goals as goal

pub returns-clause-messages : goal.returns-clause-messages
returns-clause-messages c = messages-stay

pub returns-clause-slots : goal.returns-clause-slots
returns-clause-slots c = slots-back

pub returns-clause-others : goal.returns-clause-others
returns-clause-others c = others-stay

pub returns-clause-at_rest : goal.returns-clause-at_rest
returns-clause-at_rest c = all-rest

pub returns-clause-channels : goal.returns-clause-channels
returns-clause-channels c = λ o k. refl

pub returns-clause-destinations : goal.returns-clause-destinations
returns-clause-destinations c = destinations-back

pub returns-clause-owed : goal.returns-clause-owed
returns-clause-owed c = owed-back

pub returns-clause-good : goal.returns-clause-good
returns-clause-good c = good-back
