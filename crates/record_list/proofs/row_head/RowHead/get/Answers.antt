use Rattle.std.proofs.Common.{sym, ap, ◌∙◌, slice_index_or}
use Rattle.std.specs.declared.option.Option.TheVariants.{None}
use Rattle.record_list.specs.inner.Packing.{link_of, slot_of}
use Rattle.record_list.specs.inner.Seating.{queue_seat_of, others_of}
use Rattle.record_list.proofs.Table.{read_first, read_other}
use Rattle.record_list.proofs.row_head.RowHead.get.Goals as goal

pub returns-then-d-queue : goal.returns-then-d-queue
returns-then-d-queue c =
    let k = c.self.inside in
    let s = queue_seat_of k.parts in
    let queue = ap (λ t. t.queue) c.queue_seat-first.ensures in
    c.unpacked.ensures ∙ (λ i. link_of ((c.queue_seat-first.ensures i).seat) (c.queue_ends.ensures i))
    ∙ sym (read_first s.queue _ _ c.args.d c.requires (c.if-d-queue.true ∙ queue))
    ∙ ap (λ h. slice_index_or h.links c.args.d None) c.self.view_is

pub returns-in-Several : goal.returns-in-Several
returns-in-Several c =
    let k = c.self.inside in
    let s = queue_seat_of k.parts in
    let queue = ap (λ t. t.queue) c.queue_seat-first.ensures in
    let slot = c.slot_of.ensures.slot ∙ ap (λ q. slot_of q c.args.d) queue in
    let others = ap (λ b. b.others) c.deref.ensures ∙ sym (ap others_of c.in-Several.is) in
    c.get.ensures ∙ (λ i. slice_index_or (others i) (slot i) None)
    ∙ sym (read_other s.queue _ (others_of k.parts) c.args.d c.requires (λ p. c.if-d-queue.false (p ∙ sym queue)))
    ∙ ap (λ h. slice_index_or h.links c.args.d None) c.self.view_is

pub returns-in-OneQueue : goal.returns-in-OneQueue
returns-in-OneQueue c =
    let k = c.self.inside in
    let s = queue_seat_of k.parts in
    let queue = ap (λ t. t.queue) c.queue_seat-first.ensures in
    ap (λ t. slice_index_or (others_of t) (slot_of s.queue c.args.d) None) (sym c.in-OneQueue.is)
    ∙ sym (read_other s.queue _ (others_of k.parts) c.args.d c.requires (λ p. c.if-d-queue.false (p ∙ sym queue)))
    ∙ ap (λ h. slice_index_or h.links c.args.d None) c.self.view_is
