use Rattle.std.proofs.Common.{◌≡◌, drop}
use Rattle.std.specs.Arc.{arc_value}
use Rattle.std.specs.List.{filter_map}
use Rattle.event_log.specs.History.{deployed_by, last_from}
use Rattle.sequential_book.proofs.entries.in_force.Given as goal

abbrev pub invariant-loop-entry : goal.invariant-loop-entry
invariant-loop-entry l = last_from (arc_value l.in_force) (filter_map deployed_by (drop l.entry-index l.entries)) ≡ last_from (arc_value l.plan) (filter_map deployed_by l.entries)
