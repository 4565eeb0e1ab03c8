use Rattle.delivery_worker.proofs.Delivered.{tries_anew, tries_kept}
use Rattle.delivery_worker.proofs.connection.Connection.attempt.Goals as goal

pub returns-in-Ok-clause-tries : goal.returns-in-Ok-clause-tries
returns-in-Ok-clause-tries g c =
    tries_kept _ _ _ _ _ _ _ _ _ _ _ _ c.begin.ensures.sent c.begin.ensures.received c.in-Ok.ensures.open c.in-Ok.ensures.ok

pub returns-in-Err-clause-tries : goal.returns-in-Err-clause-tries
returns-in-Err-clause-tries g c =
    tries_anew _ _ _ _ _ _ _ _ _ _ _ _ _ _ _ _ c.begin.ensures.sent c.begin.ensures.received c.in-Err.ensures.err c.exchange_anew.ensures.sends
