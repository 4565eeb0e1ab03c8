use Rattle.std.proofs.Common.{◌≡◌, ◌+◌, ◌<◌, length, drop, sym, ◌∙◌, ap, arith}
use Rattle.std.specs.Arc.{arc_value}
use Rattle.std.specs.List.{filter_map}
use Rattle.event_log.specs.History.{deployed_by, last_from}
use Rattle.sequential_book.proofs.Messages.{in_force-left}
use Rattle.sequential_book.proofs.entries.in_force.Goals as goal

pub loop-entry-preserved : goal.loop-entry-preserved
loop-entry-preserved c =
    let i = c.loop-entry.entry-index in
    let inside : i < length c.args.entries.now = omega arith in
    ap (λ p. last_from p (filter_map deployed_by (drop (i + 1) c.args.entries.now))) c.plan_after-in_force.ensures
    ∙ (in_force-left (arc_value c.loop-entry.in_force.now) c.args.entries.now i c.entry-item.result inside c.entry-item.is ∙ c.loop-entry.invariant)
