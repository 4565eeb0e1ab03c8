use Rattle.std.proofs.Common.{◌≡◌, ◌++◌, take}
use Rattle.std.specs.List.{AllByRecursion, flat_map}
use Rattle.opening_records.specs.inner.Encoding.{delivery_bytes}
use Rattle.opening_records.specs.inner.Openings.{IsDeliveryOf}
use Rattle.opening_records.proofs.writing.put_deliveries.Given as goal

abbrev pub invariant-loop-item : goal.invariant-loop-item
invariant-loop-item l = record {
  bytes : l.out.items ≡ l.initial.out.items ++ flat_map (delivery_bytes l.raw) (take l.item-index l.items);
  fits : AllByRecursion (IsDeliveryOf l.raw) (take l.item-index l.items);
}
