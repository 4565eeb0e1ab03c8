use Rattle.std.proofs.Common.{◌≡◌, true, false, sym, ap, ◌∙◌, slice_index_or, slice_set}
use Rattle.std.specs.Option.{is_some}
use Rattle.std.specs.declared.option.Option.TheVariants.{None}
use Rattle.record_list.specs.inner.Packing.{link_of, mask_after, slot_of, table_of}
use Rattle.record_list.specs.inner.Seating.{queue_seat_of, queue_ends_of, others_of, mask_of, number_of, table_by, head_by}
use Rattle.record_list.proofs.Table.{read_first, read_other, write_first, write_other, mask_first}
use Rattle.record_list.proofs.row_head.RowHead.set.Goals as goal

pub returns-then-d-queue : goal.returns-then-d-queue
returns-then-d-queue c =
    let parts = c.self.inside.parts in
    let s = queue_seat_of parts in
    let set = c.set_in_queue.ensures in
    let first = link_of s.seat (queue_ends_of parts) in
    let queue : c.args.d ≡ s.queue = c.if-d-queue.true ∙ ap (λ t. t.queue) c.queue_seat-queue.ensures in
    let there : is_some first ≡ true =
    ap is_some (sym (read_first s.queue first (others_of parts) c.args.d c.requires.chain queue)) ∙ ap (λ h. is_some (slice_index_or h.links c.args.d None)) c.self.view_is ∙ c.requires.stands in
    let number : number_of c.set_in_queue.new.self ≡ c.args.self.now.number = set.number ∙ ap (λ h. h.number) c.self.view_is in
    let mask : mask_of c.set_in_queue.new.self ≡ mask_after c.args.d (is_some c.args.link) c.args.self.now.mask =
    set.mask ∙ mask_first c.args.link parts c.args.d queue there ∙ ap (λ h. mask_after c.args.d (is_some c.args.link) h.mask) c.self.view_is in
    let links : table_by c.set_in_queue.new.self ≡ slice_set c.args.self.now.links c.args.d c.args.link =
    (λ i. table_of (set.queue i) (set.link i) (set.rest i))
    ∙ write_first s.queue first c.args.link (others_of parts) c.args.d c.requires.chain queue
    ∙ ap (λ h. slice_set h.links c.args.d c.args.link) c.self.view_is in
    λ i. record { number = number i; mask = mask i; links = links i }

pub returns-in-Several : goal.returns-in-Several
returns-in-Several c =
    let s = c.in-Several.field-0 in
    let block = c.deref_mut.result.now in
    let after = c.set_other.new.self in
    let set = c.set_other.ensures in
    let queue = ap (λ t. t.queue) (c.queue_seat-queue.ensures ∙ ap queue_seat_of c.in-Several.is) in
    let shown = sym (ap head_by c.in-Several.is) ∙ c.self.view_is in
    let mask : after.mask ≡ mask_after c.args.d (is_some c.args.link) c.args.self.now.mask =
    set.mask ∙ ap (λ b. mask_after c.args.d (is_some c.args.link) b.mask) c.deref_mut.ensures.value ∙ ap (λ h. mask_after c.args.d (is_some c.args.link) h.mask) shown in
    let links : table_of s.queue (link_of s.seat after.first) after.others ≡ slice_set c.args.self.now.links c.args.d c.args.link =
    ap (λ e. table_of s.queue (link_of s.seat e) after.others) set.first
    ∙ write_other s.queue (link_of s.seat block.first) c.args.link block.others after.others c.args.d c.requires.chain (λ p. c.if-d-queue.false (p ∙ sym queue))
    (set.others ∙ ap (λ q. slice_set block.others (slot_of q c.args.d) c.args.link) queue)
    (ap (λ q. slice_index_or after.others (slot_of q c.args.d) None) (sym queue) ∙ set.stands)
    ∙ ap (λ b. slice_set (table_of s.queue (link_of s.seat b.first) b.others) c.args.d c.args.link) c.deref_mut.ensures.value
    ∙ ap (λ h. slice_set h.links c.args.d c.args.link) shown in
    λ i. record { number = (shown i).number; mask = mask i; links = links i }

pub returns-in_default : goal.returns-in_default
returns-in_default c =
    let parts = c.self.inside.parts in
    let s = queue_seat_of parts in
    let queue = ap (λ t. t.queue) c.queue_seat-queue.ensures in
    let none : is_some (slice_index_or c.args.self.now.links c.args.d None) ≡ false =
    ap is_some (ap (λ h. slice_index_or h.links c.args.d None) (sym c.self.view_is)
    ∙ read_other s.queue _ (others_of parts) c.args.d c.requires.chain (λ p. c.if-d-queue.false (p ∙ sym queue))
    ∙ ap (λ t. slice_index_or (others_of t) (slot_of s.queue c.args.d) None) c.in_default.is) in
    let wrong : true ≡ false = sym c.requires.stands ∙ none in cc
