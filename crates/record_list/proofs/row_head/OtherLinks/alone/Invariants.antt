use Rattle.std.proofs.Common.{◌≡◌, ◌<◌, ℕ, length, slice_index_or}
use Rattle.std.specs.declared.option.Option.TheVariants.{None}
use Rattle.record_list.specs.declared.row_head.Neighbours.{Neighbours}
use Rattle.record_list.specs.declared.row_head.LinkKind.TheVariants.{Absent}
use Rattle.record_list.specs.inner.Packing.{link_of}
use Rattle.record_list.specs.inner.Stands.{stands, new_link}
use Rattle.record_list.proofs.Table.{queue_at}
use Rattle.record_list.proofs.row_head.OtherLinks.alone.Given as goal

abbrev pub invariant-loop-slot : goal.invariant-loop-slot
invariant-loop-slot l = record {
  few : length l.seats ≡ 31;
  alone : (k : ℕ) → k < l.slot → (ends : Neighbours) → link_of (slice_index_or l.seats k Absent) ends ≡ new_link (stands (queue_at l.queue k) l.mask) None;
}
