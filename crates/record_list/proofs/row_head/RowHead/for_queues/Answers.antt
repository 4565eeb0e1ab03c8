use Rattle.std.proofs.Common.{◌≡◌, ◌≢◌, ◌<◌, ◌%◌, ◌^◌, ℕ, if◌then◌else◌, arith, sym, ap, ◌∙◌, subst, slice_index_or}
use Rattle.std.specs.Int.{trailing_zeros, w32}
use Rattle.std.specs.Option.{is_some}
use Rattle.std.specs.declared.option.Option.TheVariants.{None}
use Rattle.row_store.specs.inner.Rows.{without}
use Rattle.row_store.proofs.Bits.{without-set}
use Rattle.record_list.specs.declared.row_head.QueueSeat.{QueueSeat}
use Rattle.record_list.specs.inner.Packing.{is_seated, link_of, slot_of, table_of}
use Rattle.record_list.specs.inner.Seating.{number_of, queue_seat_of, queue_ends_of, others_of, mask_of}
use Rattle.record_list.specs.inner.Stands.{stands, new_link}
use Rattle.record_list.proofs.Table.{alone_in_all, in_no_other, only_bit, seated}
use Rattle.record_list.proofs.LastLinks.{is_new}
use Rattle.record_list.proofs.row_head.RowHead.for_queues.Goals as goal
use Rattle.record_list.proofs.row_head.RowHead.for_queues.Goals.{then-in_queue, else-in_queue, then-rest-eq0, else-rest-eq0+in_ok-new}

pub returns-clause-row : goal.returns-clause-row
returns-clause-row c =
    let queue = trailing_zeros w32 c.args.mask % 32 in
    let few : queue < 32 = omega arith in
    let there = stands queue c.args.mask in
    let rest : without queue c.args.mask ≡ c.if-in_queue.rest = elim c.if-in_queue.branch [
      | then-in_queue w ↦ without-set c.args.mask queue (omega arith) (sym c.stands-in_queue.ensures ∙ w.if-in_queue.true) ∙ sym w.rest-is
      | else-in_queue w ↦ rw (sym c.stands-in_queue.ensures ∙ w.if-in_queue.false) (sym w.rest-is)
    ] in
    let ends = queue_ends_of c.if-rest-eq0.parts in
    let sits : is_seated c.alone.result ≡ there = sym (seated c.alone.result ends) ∙ ap is_some (c.alone.ensures ends) ∙ is_new c.stands-in_queue.result None ∙ c.stands-in_queue.ensures in
    elim c.if-rest-eq0.branch [
      | then-rest-eq0 w ↦ (ap number_of w.parts-is, ap mask_of w.parts-is ∙ ap (λ b. if b then 2 ^ queue else 0) sits ∙ sym (only_bit queue c.args.mask (rest ∙ w.if-rest-eq0.true)))
      | else-rest-eq0+in_ok-new w ↦ (ap number_of w.parts-is, ap mask_of w.parts-is ∙ ap (λ b. b.mask) w.in_ok-new.ensures.ok)
    ]

pub returns-clause-links : goal.returns-clause-links
returns-clause-links c =
    let queue = trailing_zeros w32 c.args.mask % 32 in
    let few : queue < 32 = omega arith in
    let parts = c.if-rest-eq0.parts in
    let ends = queue_ends_of parts in
    let first : QueueSeat = record { queue = queue; seat = c.alone.result } in
    let rest : without queue c.args.mask ≡ c.if-in_queue.rest = elim c.if-in_queue.branch [
      | then-in_queue w ↦ without-set c.args.mask queue (omega arith) (sym c.stands-in_queue.ensures ∙ w.if-in_queue.true) ∙ sym w.rest-is
      | else-in_queue w ↦ rw (sym c.stands-in_queue.ensures ∙ w.if-in_queue.false) (sym w.rest-is)
    ] in
    let seated : queue_seat_of parts ≡ first = elim c.if-rest-eq0.branch [
      | then-rest-eq0 w ↦ ap queue_seat_of w.parts-is
      | else-rest-eq0+in_ok-new w ↦ ap queue_seat_of w.parts-is
    ] in
    let others : (d : ℕ) → d < 32 → d ≢ queue → slice_index_or (others_of parts) (slot_of queue d) None ≡ new_link (stands d c.args.mask) None = λ d lt other. elim c.if-rest-eq0.branch [
      | then-rest-eq0 w ↦ ap (λ s. slice_index_or (others_of s) (slot_of queue d) None) w.parts-is ∙ sym (in_no_other queue c.args.mask d (rest ∙ w.if-rest-eq0.true) other)
      | else-rest-eq0+in_ok-new w ↦ ap (λ s. slice_index_or (others_of s) (slot_of queue d) None) w.parts-is ∙ ap (λ b. slice_index_or b.others (slot_of queue d) None) w.in_ok-new.ensures.ok ∙ w.alone-else-rest-eq0.ensures d lt other
    ] in
    subst (λ s. (d : ℕ) → d < 32 → slice_index_or (table_of s.queue (link_of s.seat ends) (others_of parts)) d None ≡ new_link (stands d c.args.mask) None) (sym seated)
    (alone_in_all queue c.args.mask _ (others_of parts) (c.alone.ensures ends ∙ ap (λ b. new_link b None) c.stands-in_queue.ensures) others)
