use Rattle.event_log.proofs.Fitting.{cancel-fits, settle-fits, sound-followed_by, sound-legal, take-fits}
use Rattle.event_log.proofs.Beginning.{opened-sound}
use Rattle.event_log.proofs.Replaying.{known-first, known-inside, known-keeps, known-remembered, unknown-before, unknown-none}
use Rattle.event_log.proofs.Rerun.{replay-same}
use Rattle.event_log.proofs.laws.history_rules.Goals as goal

pub returns-clause-replayed : goal.returns-clause-replayed
returns-clause-replayed c = replay-same

pub returns-clause-sound : goal.returns-clause-sound
returns-clause-sound c = sound-legal

pub returns-clause-opened : goal.returns-clause-opened
returns-clause-opened c = opened-sound

pub returns-clause-followed : goal.returns-clause-followed
returns-clause-followed c = sound-followed_by

pub returns-clause-take_fits : goal.returns-clause-take_fits
returns-clause-take_fits c = take-fits

pub returns-clause-settle_fits : goal.returns-clause-settle_fits
returns-clause-settle_fits c = settle-fits

pub returns-clause-cancel_fits : goal.returns-clause-cancel_fits
returns-clause-cancel_fits c = cancel-fits

pub returns-clause-known_inside : goal.returns-clause-known_inside
returns-clause-known_inside c = known-inside

pub returns-clause-known_remembered : goal.returns-clause-known_remembered
returns-clause-known_remembered c = known-remembered

pub returns-clause-known_there : goal.returns-clause-known_there
returns-clause-known_there c = λ h key place none is e. known-keeps h key place none is e

pub returns-clause-known_first : goal.returns-clause-known_first
returns-clause-known_first c = λ h key place none is k e low before. known-first h key place none is k e before

pub returns-clause-unknown : goal.returns-clause-unknown
returns-clause-unknown c = λ h key none. (unknown-before h key none, λ k e inside. unknown-none h key k e none inside)
