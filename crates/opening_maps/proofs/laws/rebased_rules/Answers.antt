use Rattle.std.proofs.Common.{refl}
use Rattle.opening_maps.proofs.Lowest.{no-lower}
use Rattle.opening_maps.proofs.LowNumbers.{counts-same, good-rebased, known-same, message-gone, messages-same, owed-same, slots-same}
use Rattle.opening_maps.proofs.laws.rebased_rules.Goals as goal

pub returns-clause-messages : goal.returns-clause-messages
returns-clause-messages c = λ o n good. messages-same o good n

pub returns-clause-slots : goal.returns-clause-slots
returns-clause-slots c = λ o n d good. slots-same o good n d

pub returns-clause-forgotten : goal.returns-clause-forgotten
returns-clause-forgotten c = λ o n good less. message-gone o good n less

pub returns-clause-keys : goal.returns-clause-keys
returns-clause-keys c = λ o key good. known-same o good key

pub returns-clause-channels : goal.returns-clause-channels
returns-clause-channels c = λ o k. refl

pub returns-clause-destinations : goal.returns-clause-destinations
returns-clause-destinations c = λ o d good. counts-same o good d

pub returns-clause-owed : goal.returns-clause-owed
returns-clause-owed c = owed-same

pub returns-clause-good : goal.returns-clause-good
returns-clause-good c = good-rebased

pub returns-clause-lowest : goal.returns-clause-lowest
returns-clause-lowest c = λ o by good may lower. no-lower o good by may lower
