use Rattle.std.proofs.Common.{arith, refl}
use Rattle.std.proofs.KnownBytes.{Keeps-trans}
use Rattle.delivery_worker.proofs.Afresh.{tries_afresh}
use Rattle.delivery_worker.proofs.Calls.{calls_add, calls_up}
use Rattle.delivery_worker.proofs.InLog.{no_turn}
use Rattle.delivery_worker.proofs.until.deliver_afresh.Goals as goal

pub returns-in-Err-clause-uncalled : goal.returns-in-Err-clause-uncalled
returns-in-Err-clause-uncalled g c = calls_up _ _ _ c.prepare.ensures.receives

pub returns-then-is_held-clause-untaken : goal.returns-then-is_held-clause-untaken
returns-then-is_held-clause-untaken g c = no_turn _ _ _ _ refl

pub returns-then-is_held-clause-uncalled : goal.returns-then-is_held-clause-uncalled
returns-then-is_held-clause-uncalled g c = calls_up _ _ _ c.prepare.ensures.receives

pub returns-in-Ok-take_turn-clause-attempt : goal.returns-in-Ok-take_turn-clause-attempt
returns-in-Ok-take_turn-clause-attempt g c =
    tries_afresh _ _ _ _ _ _ _ _ _ _ _ _ _ c.in-Ok.ensures.ready c.prepare.ensures.sent c.prepare.ensures.received c.in-Ok-take_turn.ensures.attempt

pub returns-in-Ok-take_turn-clause-receives : goal.returns-in-Ok-take_turn-clause-receives
returns-in-Ok-take_turn-clause-receives g c =
    calls_add _ _ _ _ _ _ (calls_up _ _ _ c.prepare.ensures.receives) c.in-Ok-take_turn.ensures.receives (omega arith)

pub returns-in-Err-NotDurable-clause-unused : goal.returns-in-Err-NotDurable-clause-unused
returns-in-Err-NotDurable-clause-unused g c = (
  Keeps-trans _ _ _ c.prepare.ensures.sent c.in-Err-NotDurable.ensures.unused.0,
  Keeps-trans _ _ _ c.prepare.ensures.received c.in-Err-NotDurable.ensures.unused.1,
)

pub returns-in-Err-NotDurable-clause-uncalled : goal.returns-in-Err-NotDurable-clause-uncalled
returns-in-Err-NotDurable-clause-uncalled g c =
    calls_add _ _ _ _ _ _ (calls_up _ _ _ c.prepare.ensures.receives) c.in-Err-NotDurable.ensures.uncalled (omega arith)

pub returns-in-Err-Refused-clause-unused : goal.returns-in-Err-Refused-clause-unused
returns-in-Err-Refused-clause-unused g c = (
  Keeps-trans _ _ _ c.prepare.ensures.sent c.in-Err-Refused.ensures.unused.0,
  Keeps-trans _ _ _ c.prepare.ensures.received c.in-Err-Refused.ensures.unused.1,
)

pub returns-in-Err-Refused-clause-uncalled : goal.returns-in-Err-Refused-clause-uncalled
returns-in-Err-Refused-clause-uncalled g c =
    calls_add _ _ _ _ _ _ (calls_up _ _ _ c.prepare.ensures.receives) c.in-Err-Refused.ensures.uncalled (omega arith)

pub returns-in-Err-clause-untaken : goal.returns-in-Err-clause-untaken
returns-in-Err-clause-untaken g c = no_turn _ _ _ _ refl
