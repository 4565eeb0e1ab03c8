use Rattle.std.proofs.Common.{◌≡◌, ap, sym, ◌∙◌, subst}
use Rattle.book_lock.specs.Crowding.{crowded_route}
use Rattle.book_lock.specs.Rises.{SharedBook}
use Rattle.book_lock.proofs.MakingRoom.{after_tidying, nothing_done}
use Rattle.book_lock.proofs.locked.Locked.arrive_unless_crowded.Goals as goal

pub returns-then-is_nothing-clause-arrives : goal.returns-then-is_nothing-clause-arrives
returns-then-is_nothing-clause-arrives g c =
    nothing_done g.A.Sharing.opening c.args.keep c.args.conn c.args.judged.now c.args.self.now c.tidy-tidying.new.self c.arrive_making_room.new.self c.args.desk.now c.arrive_making_room.new.desk c.arrive_making_room.result c.tidy-tidying.result
    c.tidy-tidying.ensures.left (c.is_nothing.ensures.0 c.if-is_nothing.true) c.arrive_making_room.ensures

pub returns-clause-arrives : goal.returns-clause-arrives
returns-clause-arrives g c =
    let then = c.book_arrival-receipt in
    after_tidying g.A.Sharing.opening c.args.keep c.args.conn c.args.judged.now c.args.self.now c.tidy-tidying.new.self then.new.self c.args.desk.now then.new.desk then.result c.tidy-tidying.result c.repeats.result
    c.tidy-tidying.ensures.tidying c.tidy-tidying.ensures.in_log c.tidy-tidying.ensures.left
    (λ is. let yes = c.is_nothing.ensures.1 is in let no = c.if-is_nothing.false in absurd cc)
    (ap (λ (h : SharedBook). crowded_route h.book c.args.judged.now.channel) (sym c.self.view_is) ∙ (ap (crowded_route c.self.inside.book) (sym c.channel.ensures.value) ∙ (sym c.crowded_route.ensures ∙ c.in_default.is)))
    (record { does = then.ensures.does; memory = then.ensures.memory; book = then.ensures.book; receipt = then.ensures.receipt; plan = then.ensures.plan; same_plan = then.ensures.same_plan })
    then.ensures.call then.ensures.counted then.ensures.err c.repeats.ensures
