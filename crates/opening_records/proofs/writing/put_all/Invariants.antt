use Rattle.std.proofs.Common.{◌≡◌, ◌++◌, take}
use Rattle.std.specs.List.{AllByRecursion, flat_map}
use Rattle.opening_records.specs.inner.Encoding.{remembered_bytes}
use Rattle.opening_records.specs.inner.Openings.{IsRemembered}
use Rattle.opening_records.proofs.writing.put_all.Given as goal

abbrev pub invariant-loop-item : goal.invariant-loop-item
invariant-loop-item l = record {
  bytes : l.out.items ≡ l.initial.out.items ++ flat_map remembered_bytes (take l.item-index l.items);
  fits : AllByRecursion IsRemembered (take l.item-index l.items);
}
