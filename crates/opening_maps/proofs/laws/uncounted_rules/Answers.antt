use Rattle.std.proofs.Common.{refl}
use Rattle.opening_maps.proofs.Reached.{number-reached, place-reached}
use Rattle.opening_maps.proofs.SetAside.{channels-add, destinations-add, good-uncounted, owed-stays}
use Rattle.opening_maps.proofs.laws.uncounted_rules.Goals as goal

pub returns-clause-messages : goal.returns-clause-messages
returns-clause-messages c = λ o n. refl

pub returns-clause-slots : goal.returns-clause-slots
returns-clause-slots c = λ o n d. refl

pub returns-clause-owed : goal.returns-clause-owed
returns-clause-owed c = owed-stays

pub returns-clause-channels : goal.returns-clause-channels
returns-clause-channels c = λ o k good below. channels-add o good k below

pub returns-clause-destinations : goal.returns-clause-destinations
returns-clause-destinations c = λ o d good below. destinations-add o good d below

pub returns-clause-good : goal.returns-clause-good
returns-clause-good c = good-uncounted

pub returns-clause-places : goal.returns-clause-places
returns-clause-places c = place-reached

pub returns-clause-numbers : goal.returns-clause-numbers
returns-clause-numbers c = number-reached
