use Rattle.std.proofs.Common.{◌≡◌, ◌∷◌, ◌∙◌, ℕ, List, ap, subst}
use Rattle.book_lock.specs.Log.{Log}
use Rattle.book_lock.specs.Shares.{DeskView}
use Rattle.book_lock.specs.inner.Log.{desk_seat}
use Rattle.book_lock.specs.inner.Counts.{count_of, is_arrival}
use Rattle.book_lock.proofs.HandedIn.{all_more, held_more}
use Rattle.book_lock.proofs.desks.hand_in_desks.Goals as goal

pub loop-desk-preserved : goal.loop-desk-preserved
loop-desk-preserved g c =
    let inv = c.loop-desk.invariant in (
      ap (λ (r : Log × ℕ × List (ℕ × Log)). r.0) c.hold.ensures ∙ inv.0,
      ap (λ (r : Log × ℕ × List (ℕ × Log)). r.1) c.hold.ensures ∙ inv.1,
      held_more desk_seat c.args.desks.items c.pop.new.self.items c.loop-desk.desks.items c.in-Some.desk c.args.roll.now.2 c.loop-desk.roll.2 c.hold.new.self.2 inv.2 c.in-Some.ensures.items
          (ap (λ (r : Log × ℕ × List (ℕ × Log)). r.2) c.hold.ensures ∙ ap (λ (d : DeskView). desk_seat d ∷ c.loop-desk.roll.2) c.desk.view_is),
      all_more (λ (d : DeskView). d.made ≡ count_of is_arrival d.seat.number d.seat.seen) c.args.desks.items c.pop.new.self.items c.loop-desk.desks.items c.in-Some.desk inv.3 c.in-Some.ensures.items
          (subst (λ (d : DeskView). d.made ≡ count_of is_arrival d.seat.number d.seat.seen) c.desk.view_is c.desk.invariant.1),
    )
