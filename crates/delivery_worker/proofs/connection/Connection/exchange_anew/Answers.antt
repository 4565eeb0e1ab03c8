use Rattle.delivery_worker.proofs.Delivered.{sends_anew, tried_nothing}
use Rattle.delivery_worker.proofs.connection.Connection.exchange_anew.Goals as goal

pub returns-in-Err-clause-sends : goal.returns-in-Err-clause-sends
returns-in-Err-clause-sends g c = tried_nothing _ _ _ _ _ _ _ _ _ c.requires.none c.connect.ensures.sent c.connect.ensures.received

pub returns-in-Ok-exchange-clause-sends : goal.returns-in-Ok-exchange-clause-sends
returns-in-Ok-exchange-clause-sends g c =
    sends_anew _ _ _ _ _ _ _ _ _ _ _ _ c.new.ensures c.connect.ensures.sent c.connect.ensures.received c.in-Ok-exchange.ensures.ok

pub returns-in-Err-exchange-clause-sends : goal.returns-in-Err-exchange-clause-sends
returns-in-Err-exchange-clause-sends g c =
    sends_anew _ _ _ _ _ _ _ _ _ _ _ _ c.new.ensures c.connect.ensures.sent c.connect.ensures.received (rw c.in-Err-exchange.ensures.unanswered.1 c.in-Err-exchange.ensures.err)
