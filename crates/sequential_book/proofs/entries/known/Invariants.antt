use Rattle.std.proofs.Common.{◌≡◌, drop}
use Rattle.std.specs.List.{position, position_from}
use Rattle.event_log.specs.Answers.{keeps}
use Rattle.sequential_book.proofs.entries.known.Given as goal

abbrev pub invariant-loop-place : goal.invariant-loop-place
invariant-loop-place l = position_from (keeps l.key) l.place (drop l.place l.entries) ≡ position (keeps l.key) l.entries
