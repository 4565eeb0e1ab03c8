use Rattle.event_log.specs.Alike.{forgotten_by}
use Rattle.event_log.specs.Folding.{pruned}
use Rattle.event_log.proofs.Memories.{folded-memories, folded-owed, folded-places}
use Rattle.event_log.proofs.MemoryNumbers.{folded-numbers, numbers-within}
use Rattle.event_log.proofs.FoldedCounts.{folded-counts}
use Rattle.event_log.proofs.FoldedGood.{folded-good}
use Rattle.event_log.proofs.ForgottenPlaces.{known-pruned}
use Rattle.event_log.proofs.MemoryKeys.{folded-keys}
use Rattle.event_log.proofs.PrunedRuns.{pruned-both}
use Rattle.event_log.proofs.FoldedAlike.{pruned-alike}
use Rattle.event_log.proofs.AnsweringAlike.{answers-alike}
use Rattle.event_log.proofs.RunningAlike.{answers-both, next-both, run-both, sound-both}
use Rattle.event_log.proofs.folding.folding_rules.Goals as goal

pub returns-clause-answered : goal.returns-clause-answered
returns-clause-answered c = λ aside h k e sound its_sound alike met. answers-alike aside h k alike e met

pub returns-clause-followed : goal.returns-clause-followed
returns-clause-followed c = λ aside h k e sound its_sound alike met. (next-both aside h k (sound-both aside h k sound its_sound alike) e met).alike

pub returns-clause-answered_all : goal.returns-clause-answered_all
returns-clause-answered_all c = λ aside h k es sound its_sound alike met. answers-both aside h k (sound-both aside h k sound its_sound alike) es met

pub returns-clause-run_on : goal.returns-clause-run_on
returns-clause-run_on c = λ aside h k es sound its_sound alike met. (run-both aside h k (sound-both aside h k sound its_sound alike) es met).alike

pub returns-clause-folded : goal.returns-clause-folded
returns-clause-folded c = λ h bound sound may. pruned-alike h sound bound may

pub returns-clause-pruned_answers : goal.returns-clause-pruned_answers
returns-clause-pruned_answers c = λ h bound es sound may met. answers-both (forgotten_by bound h) h (pruned bound h) (pruned-both h sound bound may) es met

pub returns-clause-pruned_runs : goal.returns-clause-pruned_runs
returns-clause-pruned_runs c = λ h bound es sound may met. (run-both (forgotten_by bound h) h (pruned bound h) (pruned-both h sound bound may) es met).alike

pub returns-clause-memories : goal.returns-clause-memories
returns-clause-memories c = λ h bound sound. folded-memories h sound bound

pub returns-clause-places : goal.returns-clause-places
returns-clause-places c = λ h bound sound. folded-places h sound bound

pub returns-clause-owes : goal.returns-clause-owes
returns-clause-owes c = λ h bound sound may. folded-owed h sound bound may

pub returns-clause-numbers : goal.returns-clause-numbers
returns-clause-numbers c = λ h bound sound. folded-numbers h sound bound

pub returns-clause-numbers_within : goal.returns-clause-numbers_within
returns-clause-numbers_within c = λ h bound sound. numbers-within h sound bound

pub returns-clause-keys : goal.returns-clause-keys
returns-clause-keys c = λ h bound sound. folded-keys h sound bound

pub returns-clause-good : goal.returns-clause-good
returns-clause-good c = λ h bound sound may small taken. folded-good h sound bound may small (folded-counts h sound bound may small taken) taken

pub returns-clause-known : goal.returns-clause-known
returns-clause-known c = λ h bound key sound may. known-pruned h sound bound may key
