use Rattle.std.proofs.Common.{rules, ◌≡◌, List, [], IfOk, subst}
use Rattle.std.specs.Arc.{arc_value}
use Rattle.std.specs.Option.{option_map_or}
use Rattle.judge_core.specs.declared.delivery.Delivery.{Delivery}
use Rattle.judge_core.specs.Judging.{deliveries_of}
use Rattle.event_log.specs.History.{accepted_by}
use Rattle.sequential_book.proofs.entries.deliveries_by.Goals as goal

pub returns-in_ok-judged_again-in-Arrival-default-default-default-Accepted : goal.returns-in_ok-judged_again-in-Arrival-default-default-default-Accepted
returns-in_ok-judged_again-in-Arrival-default-default-default-Accepted c =
    let is : deliveries_of c.verdict-in-Arrival-default-default-default-Accepted.result.now ≡ option_map_or (λ message. message.deliveries) (accepted_by (arc_value c.args.plan.now) c.args.entry.now) [] = search rules in
    subst (λ (sent : List Delivery). IfOk c.deliveries_of.result (λ found. option_map_or (λ deliveries. deliveries) found [] ≡ sent)) is c.deliveries_of.ensures
