use Rattle.opening_maps.proofs.GivenBack.{others-stay}
use Rattle.book_recovery.proofs.GoingOn.{at-rest, enough, messages, queues, slots, unchanged}
use Rattle.book_recovery.proofs.laws.going_on_rules.Goals as goal

pub returns-clause-messages : goal.returns-clause-messages
returns-clause-messages c = messages

pub returns-clause-slots : goal.returns-clause-slots
returns-clause-slots c = slots

pub returns-clause-others : goal.returns-clause-others
returns-clause-others c = others-stay

pub returns-clause-queues : goal.returns-clause-queues
returns-clause-queues c = queues

pub returns-clause-at_rest : goal.returns-clause-at_rest
returns-clause-at_rest c = at-rest

pub returns-clause-unchanged : goal.returns-clause-unchanged
returns-clause-unchanged c = unchanged

pub returns-clause-enough : goal.returns-clause-enough
returns-clause-enough c = enough
