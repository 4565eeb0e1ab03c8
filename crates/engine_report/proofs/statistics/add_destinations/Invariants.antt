use Rattle.std.proofs.Common.{◌≡◌, ◌++◌, string_bytes, take}
use Rattle.stat_count.specs.Statistics.{destination_at}
use Rattle.engine_report.specs.Lines.{destination_line, lines_from}
use Rattle.engine_report.proofs.statistics.add_destinations.Given as goal

abbrev pub invariant-loop-place : goal.invariant-loop-place
invariant-loop-place l =
    string_bytes l.text ≡ string_bytes l.initial.text ++ lines_from (λ place c. destination_line c.name (destination_at place l.counts)) 0 (take l.place l.plan.destinations)
