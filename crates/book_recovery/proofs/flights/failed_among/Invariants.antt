use Rattle.std.proofs.Common.{◌≡◌, take}
use Rattle.std.specs.List.{filter_map}
use Rattle.book_recovery.specs.Interrupting.{failed_in}
use Rattle.book_recovery.proofs.flights.failed_among.Given as goal

abbrev pub invariant-loop-item : goal.invariant-loop-item
invariant-loop-item g l = l.failed.items ≡ filter_map (failed_in l.fn.book) (take l.item-index l.records)
