use Rattle.std.proofs.Common.{◌≡◌, ◌++◌, take}
use Rattle.std.specs.List.{AllByRecursion, flat_map}
use Rattle.opening_records.specs.inner.Encoding.{destination_bytes, destination_numbers}
use Rattle.opening_records.specs.inner.Openings.{AreWide}
use Rattle.opening_records.proofs.writing.put_destinations.Given as goal

abbrev pub invariant-loop-item : goal.invariant-loop-item
invariant-loop-item l = record {
  bytes : l.out.items ≡ l.initial.out.items ++ flat_map destination_bytes (take l.item-index l.items);
  fits : AllByRecursion (λ c. AreWide (destination_numbers c)) (take l.item-index l.items);
}
