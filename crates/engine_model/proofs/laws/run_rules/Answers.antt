use Rattle.engine_model.proofs.Channels.{have-channels, run-keeps}
use Rattle.engine_model.proofs.Determined.{front-replies, reads_on-same}
use Rattle.engine_model.proofs.Reaching.{reaches}
use Rattle.engine_model.proofs.Stepping.{opened-keeps, runs-append, runs-keep, started-keeps, step-keeps}
use Rattle.engine_model.proofs.Stretches.{pieces-joined, runs-cut}
use Rattle.engine_model.proofs.laws.run_rules.Goals as goal

pub returns-clause-started : goal.returns-clause-started
returns-clause-started c = started-keeps

pub returns-clause-opened : goal.returns-clause-opened
returns-clause-opened c = opened-keeps

pub returns-clause-stepped : goal.returns-clause-stepped
returns-clause-stepped c = step-keeps

pub returns-clause-ran : goal.returns-clause-ran
returns-clause-ran c = runs-keep

pub returns-clause-cut : goal.returns-clause-cut
returns-clause-cut c = runs-cut

pub returns-clause-goes_on : goal.returns-clause-goes_on
returns-clause-goes_on c = runs-append

pub returns-clause-joined : goal.returns-clause-joined
returns-clause-joined c = pieces-joined

pub returns-clause-kept : goal.returns-clause-kept
returns-clause-kept c = run-keeps

pub returns-clause-reached : goal.returns-clause-reached
returns-clause-reached c = reaches

pub returns-clause-fit : goal.returns-clause-fit
returns-clause-fit c = λ h. have-channels h.entries

pub returns-clause-determined : goal.returns-clause-determined
returns-clause-determined c = reads_on-same

pub returns-clause-front : goal.returns-clause-front
returns-clause-front c = front-replies
