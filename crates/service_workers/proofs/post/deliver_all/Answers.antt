use Rattle.std.proofs.Common.{rules, ◌≡◌, false}
use Rattle.std.specs.Prelude.{is_some}
use Rattle.delivery_worker.proofs.Works.{delivered_once}
use Rattle.service_workers.proofs.post.deliver_all.Goals as goal

pub invariant_of-result : goal.invariant_of-result
invariant_of-result g c =
    let none : is_some c.args.work.report ≡ false = search rules in
    let made = c.deliver_until-report.ensures.attempts in
    record {
      delivered = delivered_once g.A.Sharing.opening c.args.work.destination c.args.work.station.seat c.deliver_until-report.new.station.seat c.args.work.report
          c.deliver_until-report.result _ none c.args.work.delivered made.0.tells made.1;
    }
