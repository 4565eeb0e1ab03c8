use Rattle.std.proofs.Common.{◌≡◌, []}
use Rattle.std.proofs.lemmas.List.Elements.{All-pop}
use Rattle.book_lock.specs.Shares.{DeskView}
use Rattle.service_run.proofs.Seats.{unseen_desks}
use Rattle.service_run.proofs.stored.journal_desk.Goals as goal

pub returns-in-Some : goal.returns-in-Some
returns-in-Some g c =
    let all = unseen_desks c.args.desks.now.items 0 c.args._count c.requires in
    let popped = (All-pop (λ (d : DeskView). d.seat.seen ≡ []) _ _ c.pop.result c.pop.ensures.items all).1 in
    rw c.in-Some.is at popped
