use Rattle.std.proofs.Common.{arith, ap, ◌∙◌}
use Rattle.std.specs.declared.option.Option.TheVariants.{None}
use Rattle.record_list.specs.inner.Packing.{slot_of}
use Rattle.record_list.specs.inner.Stands.{stands, new_link}
use Rattle.record_list.proofs.Packing.{link_read}
use Rattle.record_list.proofs.Table.{slot_lt, queue_at_slot}
use Rattle.record_list.proofs.row_head.OtherLinks.alone.Goals as goal

pub returns : goal.returns
returns c = λ d lt other.
    let slot = slot_of c.args.queue d in
    let within = slot_lt c.args.queue d other lt c.requires in
    link_read c.loop-slot.seats _ slot (record { prev = c.nowhere-nowhere.result; next = c.nowhere-nowhere.result }) (omega (arith, within, c.loop-slot.invariant.few)) within
    ∙ c.loop-slot.invariant.alone slot (omega (arith, within, c.loop-slot-test.false)) _ ∙ ap (λ k. new_link (stands k c.args.mask) None) (queue_at_slot c.args.queue d other)
