use Rattle.book_replay.proofs.Reasons.{only}
use Rattle.book_replay.proofs.laws.replay_rules.Goals as goal

pub returns : goal.returns
returns c = record { only = only }
