use Rattle.delivery_worker.proofs.Sent.{delivered_sent, settled_sent, traced}
use Rattle.delivery_worker.proofs.laws.delivered_is_sent.Goals as goal

pub returns-clause-settled : goal.returns-clause-settled
returns-clause-settled c = settled_sent

pub returns-clause-delivered : goal.returns-clause-delivered
returns-clause-delivered c = delivered_sent

pub returns-clause-traced : goal.returns-clause-traced
returns-clause-traced c = traced
