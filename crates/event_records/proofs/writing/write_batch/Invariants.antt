use Rattle.std.proofs.Common.{◌≡◌, ◌++◌, length, take}
use Rattle.std.specs.Int.{w32, to_be_bytes}
use Rattle.std.specs.List.{AllByRecursion}
use Rattle.event_records.specs.inner.Fields.{Fits}
use Rattle.event_records.specs.inner.Encoding.{encodings}
use Rattle.event_records.proofs.writing.write_batch.Given as goal

abbrev pub invariant-loop-item : goal.invariant-loop-item
invariant-loop-item l = record {
  bytes : l.out.items ≡ to_be_bytes w32 (length l.records) ++ encodings (take l.item-index l.records);
  fits : AllByRecursion Fits (take l.item-index l.records);
}
