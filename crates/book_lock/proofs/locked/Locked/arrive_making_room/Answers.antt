use Rattle.std.proofs.Common.{subst}
use Rattle.event_log.specs.inner.Legal.{IsSound}
use Rattle.book_lock.specs.Rises.{SharedBook}
use Rattle.book_lock.proofs.MakingRoom.{again, first_only}
use Rattle.book_lock.proofs.locked.Locked.arrive_making_room.Goals as goal

pub returns-then-not-lacks_room : goal.returns-then-not-lacks_room
returns-then-not-lacks_room g c =
    let first = c.book_arrival-first in
    first_only g.A.Sharing.opening c.args.keep c.args.conn c.args.judged.now c.args.self.now first.new.self c.args.desk.now first.new.desk first.result c.repeats.result
    c.requires.not_tight c.requires.free
    (record { does = first.ensures.does; memory = first.ensures.memory; book = first.ensures.book; receipt = first.ensures.receipt; plan = first.ensures.plan; same_plan = first.ensures.same_plan })
    first.ensures.call first.ensures.counted first.ensures.err
    (λ p. let yes = c.lacks_room.ensures.1 p in let no = c.if-not-lacks_room.true in absurd cc)
    c.repeats.ensures

pub returns : goal.returns
returns g c =
    let first = c.book_arrival-first in
    let then = c.book_arrival-receipt in
    let lacks = c.lacks_room.ensures.0 c.if-not-lacks_room.false in
    again g.A.Sharing.opening c.args.keep c.args.conn c.args.judged.now c.args.self.now first.new.self c.prune_for_room-tidying.new.self then.new.self
    c.args.desk.now first.new.desk then.new.desk first.result then.result c.prune_for_room-tidying.result c.repeats-2.result
    (subst (λ (h : SharedBook). IsSound h.book) c.self.view_is c.rules.ensures.sound) c.requires.not_tight c.requires.free
    lacks.0 first.ensures.does first.ensures.book first.ensures.call.arrives first.ensures.err lacks.1
    c.prune_for_room-tidying.ensures.pruning c.prune_for_room-tidying.ensures.left c.prune_for_room-tidying.ensures.in_log
    (record { does = then.ensures.does; memory = then.ensures.memory; book = then.ensures.book; receipt = then.ensures.receipt; plan = then.ensures.plan; same_plan = then.ensures.same_plan })
    then.ensures.call then.ensures.counted then.ensures.err c.repeats-2.ensures
