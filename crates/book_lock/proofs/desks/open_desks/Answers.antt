use Rattle.std.proofs.Common.{◌≡◌, [], map, ap, rules, ◌∙◌}
use Rattle.std.proofs.Common.{All, refl, subst, sym}
use Rattle.std.proofs.lemmas.List.Elements.{All-append, All-cons, All-nil}
use Rattle.book_lock.specs.Shares.{DeskView}
use Rattle.book_lock.proofs.Logging.{new_seat_is, one_issued, seats_more}
use Rattle.book_lock.proofs.desks.open_desks.Goals as goal

pub loop-preserved : goal.loop-preserved
loop-preserved g c =
    let inv = c.loop.invariant in (
      search rules,
      search rules,
      subst (All (λ (d : DeskView). d.made ≡ 0)) (sym c.push_reserved.ensures.items) (All-append (λ (d : DeskView). d.made ≡ 0) c.loop.desks.items _ inv.2 (All-cons (λ (d : DeskView). d.made ≡ 0) _ [] refl (All-nil (λ (d : DeskView). d.made ≡ 0)))),
      one_issued c.args.log.now c.loop.log c.issue.new.self c.loop.counter inv.3 c.issue.ensures.log,
      ap (map (λ (d : DeskView). d.seat)) c.push_reserved.ensures.items
          ∙ seats_more (λ (d : DeskView). d.seat) c.loop.desks.items _ c.args.log.now.1 c.loop.counter inv.4 (new_seat_is c.issue.result c.loop.log c.args.log.now c.loop.counter c.issue.ensures.seat inv.3),
    )
