use Rattle.judge_core.proofs.Judgements.{booked-verdict}
use Rattle.judge_core.proofs.Verdicts.{unreadable-verdict, stray-verdict, lead-named, deliveries-verdict}
use Rattle.judge_core.proofs.laws.verdict_rules.Goals as goal

pub returns-clause-unreadable : goal.returns-clause-unreadable
returns-clause-unreadable c = unreadable-verdict

pub returns-clause-stray : goal.returns-clause-stray
returns-clause-stray c = stray-verdict

pub returns-clause-booked : goal.returns-clause-booked
returns-clause-booked c = booked-verdict

pub returns-clause-lead : goal.returns-clause-lead
returns-clause-lead c = lead-named

pub returns-clause-deliveries : goal.returns-clause-deliveries
returns-clause-deliveries c = deliveries-verdict
