use Rattle.std.proofs.Common.{refl}
use Rattle.event_log.proofs.Events.{arrival-answered, arrival-full, deployment-answered, deployment-full, deployment-refused, does-next, may-follow, next-again}
use Rattle.event_log.proofs.laws.event_rules.Goals as goal

pub returns-clause-arrival : goal.returns-clause-arrival
returns-clause-arrival c = arrival-answered

pub returns-clause-arrival_full : goal.returns-clause-arrival_full
returns-clause-arrival_full c = arrival-full

pub returns-clause-taken : goal.returns-clause-taken
returns-clause-taken c = λ h d now. refl

pub returns-clause-settled : goal.returns-clause-settled
returns-clause-settled c = λ h ticket outcome now. refl

pub returns-clause-cancelled : goal.returns-clause-cancelled
returns-clause-cancelled c = λ h number among. refl

pub returns-clause-deployed : goal.returns-clause-deployed
returns-clause-deployed c = deployment-answered

pub returns-clause-deployed_full : goal.returns-clause-deployed_full
returns-clause-deployed_full c = deployment-full

pub returns-clause-not_deployed : goal.returns-clause-not_deployed
returns-clause-not_deployed c = deployment-refused

pub returns-clause-again : goal.returns-clause-again
returns-clause-again c = next-again

pub returns-clause-follows : goal.returns-clause-follows
returns-clause-follows c = may-follow

pub returns-clause-leaves : goal.returns-clause-leaves
returns-clause-leaves c = does-next
