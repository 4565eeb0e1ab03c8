use Rattle.std.proofs.Common.{◌≡◌, drop}
use Rattle.std.specs.List.{filter_map}
use Rattle.dest_queue.specs.declared.SlotState.TheVariants.{Waiting}
use Rattle.event_log.specs.History.{last_from, state_by}
use Rattle.sequential_book.proofs.entries.state.Given as goal

abbrev pub invariant-loop-entry : goal.invariant-loop-entry
invariant-loop-entry l = last_from l.state (filter_map (state_by l.number l.d) (drop l.entry-index l.entries)) ≡ last_from (Waiting 0 0) (filter_map (state_by l.number l.d) l.entries)
