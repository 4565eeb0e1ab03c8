use Rattle.book_core.proofs.ThreeSums.{arrival-sums, cancel-sums, deploy-sums, settle-sums, sums-few, take-sums}
use Rattle.book_core.proofs.laws.three_sums.Goals as goal

pub returns-clause-arrival : goal.returns-clause-arrival
returns-clause-arrival c = arrival-sums

pub returns-clause-take : goal.returns-clause-take
returns-clause-take c = take-sums

pub returns-clause-settlement : goal.returns-clause-settlement
returns-clause-settlement c = settle-sums

pub returns-clause-cancellation : goal.returns-clause-cancellation
returns-clause-cancellation c = cancel-sums

pub returns-clause-deployment : goal.returns-clause-deployment
returns-clause-deployment c = deploy-sums

pub returns-clause-few_arrivals : goal.returns-clause-few_arrivals
returns-clause-few_arrivals c = λ h sound few. (sums-few h sound few).0

pub returns-clause-few_takes : goal.returns-clause-few_takes
returns-clause-few_takes c = λ h sound few. (sums-few h sound few).1

pub returns-clause-few_settlements : goal.returns-clause-few_settlements
returns-clause-few_settlements c = λ h sound few. (sums-few h sound few).2
