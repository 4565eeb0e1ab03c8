use Rattle.std.proofs.Common.{◌≡◌, Some}
use Rattle.delivery_worker.proofs.Delivered.{sends_after, spends_sending}
use Rattle.delivery_worker.proofs.connection.Connection.exchange_kept.Goals as goal

pub returns-in-Ok-clause-ok : goal.returns-in-Ok-clause-ok
returns-in-Ok-clause-ok g c =
    let was : c.args.self.now.framer ≡ Some c.in-Some.framer = cc in
    sends_after _ _ _ _ _ _ _ _ _ _ _ _ _ was c.is_open_for.ensures.sent c.is_open_for.ensures.received c.in-Ok.ensures.ok

pub returns-in-Err-clause-err : goal.returns-in-Err-clause-err
returns-in-Err-clause-err g c =
    let was : c.args.self.now.framer ≡ Some c.in-Some.framer = cc in
    spends_sending _ _ _ _ _ _ _ _ _ _ _ _ _ _ _ _ _ was c.is_open_for.ensures.sent c.is_open_for.ensures.received c.is_open_for.ensures.receives
    c.in-Err.ensures.err c.in-Err.ensures.unanswered.0 c.in-Err.ensures.asked.1 c.in-Err.ensures.listened
