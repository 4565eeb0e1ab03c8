use Rattle.std.proofs.Common.{◌≡◌, ◌++◌, take}
use Rattle.std.specs.List.{AllByRecursion, flat_map}
use Rattle.opening_records.specs.inner.Encoding.{slot_bytes}
use Rattle.opening_records.specs.inner.Openings.{IsSlot}
use Rattle.opening_records.proofs.writing.put_slots.Given as goal

abbrev pub invariant-loop-item : goal.invariant-loop-item
invariant-loop-item l = record {
  bytes : l.out.items ≡ l.initial.out.items ++ flat_map slot_bytes (take l.item-index l.items);
  fits : AllByRecursion IsSlot (take l.item-index l.items);
}
