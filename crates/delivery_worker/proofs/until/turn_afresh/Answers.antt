use Rattle.std.proofs.Common.{refl}
use Rattle.delivery_worker.proofs.InLog.{no_turn}
use Rattle.delivery_worker.proofs.until.turn_afresh.Goals as goal

pub returns-then-is_finished-clause-untaken : goal.returns-then-is_finished-clause-untaken
returns-then-is_finished-clause-untaken g c = no_turn _ _ _ _ refl

pub returns-then-not-is_due-clause-untaken : goal.returns-then-not-is_due-clause-untaken
returns-then-not-is_due-clause-untaken g c = no_turn _ _ _ _ refl

pub returns-then-is_finished-2-clause-untaken : goal.returns-then-is_finished-2-clause-untaken
returns-then-is_finished-2-clause-untaken g c = no_turn _ _ _ _ refl

pub returns-then-is_held-2-clause-untaken : goal.returns-then-is_held-2-clause-untaken
returns-then-is_held-2-clause-untaken g c = no_turn _ _ _ _ refl
