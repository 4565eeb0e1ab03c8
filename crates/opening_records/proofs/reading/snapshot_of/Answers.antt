use Rattle.std.proofs.Common.{◌≡◌, false, true, sym}
use Rattle.stat_count.specs.inner.Statistics.{are_statistics}
use Rattle.opening_records.specs.inner.Reading.{written_of}
use Rattle.opening_records.proofs.Snapshots.{counters_of, counters_only}
use Rattle.opening_records.proofs.reading.snapshot_of.Goals as goal

pub returns-in_default-clause-only : goal.returns-in_default-clause-only
returns-in_default-clause-only c = λ o orderly is.
    let yes : are_statistics (counters_of (written_of c.args.parts)) ≡ true = counters_only (written_of c.args.parts) o orderly is in
    let no : are_statistics (counters_of (written_of c.args.parts)) ≡ false = rw (sym c.deref-2.ensures.value, sym c.deref-3.ensures.value) c.in_default.ensures.refused in
    absurd (cc)
