use Rattle.std.proofs.Common.{rules, ◌≡◌, false}
use Rattle.std.specs.Prelude.{is_some}
use Rattle.delivery_worker.proofs.Works.{delivered_once}
use Rattle.engine_workers.proofs.outlet.deliver_all.Goals as goal

pub invariant_of-give_back-clause-delivered : goal.invariant_of-give_back-clause-delivered
invariant_of-give_back-clause-delivered g c =
    let none : is_some c.in-Some.outlet.report ≡ false = search rules in
    let made = c.deliver-report.ensures.attempts in
    delivered_once g.A.Sharing.opening c.in-Some.outlet.destination c.in-Some.outlet.station.seat c.deliver-report.new.station.seat c.in-Some.outlet.report
    c.deliver-report.result _ none c.in-Some.outlet.delivered made.0.tells made.1
