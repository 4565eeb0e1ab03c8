use Rattle.book_lock.proofs.Durability.{all_before}
use Rattle.book_lock.proofs.shared.Shared.wait_durable.Goals as goal

pub returns-then-is_durable-clause-all : goal.returns-then-is_durable-clause-all
returns-then-is_durable-clause-all g c =
    all_before g.A.Sharing.opening c.args.desk.now.seat c.observe_end-until.new.desk.seat c.is_durable.new.desk.seat.seen c.observe_end-until.ensures.looks (c.is_durable.ensures.all c.if-is_durable.true)
