use Rattle.std.proofs.Common.{◌≡◌, ◌∙◌, sym, ap, arith, ℕ}
use Rattle.std.specs.Option.{option_copied_mut}
use Rattle.dest_queue.specs.inner.Slots.{has_bit}
use Rattle.row_store.specs.inner.Rows.{unlinked}
use Rattle.row_store.proofs.Changes.{changed_at-none}
use Rattle.dest_queue.proofs.QueueLemmas.{cancel-done, cancel-idle, fold-left, fold-stayed, no_bits}
use Rattle.dest_queue.proofs.queues.cancel_among.Goals as goal
use Rattle.dest_queue.proofs.queues.cancel_among.Goals.{then-has_bit, else-has_bit}

pub returns-in_err-get_mut-clause-cancelled : goal.returns-in_err-get_mut-clause-cancelled
returns-in_err-get_mut-clause-cancelled g c =
    let none = sym c.get_mut.ensures.item ∙ ap option_copied_mut c.in_err-get_mut.was in
    c.get_mut.follows.holds-at-none ∙ sym (changed_at-none c.args.number _ (g.S.RowStore.rows c.args.rows.now) none)

pub loop-d-preserved : goal.loop-d-preserved
loop-d-preserved g c = elim c.if-has_bit.branch [
  | then-has_bit w ↦
      ap g.S.RowStore.rows w.rows-is ∙ w.unlink.ensures.unlinked ∙ ap (λ rows. unlinked c.args.number c.loop-d.d rows) c.loop-d.invariant
      ∙ sym (fold-left c.args.number c.cancel-mask.result c.loop-d.d _ (sym c.has_bit.ensures ∙ w.if-has_bit.true))
  | else-has_bit w ↦
      ap g.S.RowStore.rows w.rows-is ∙ c.loop-d.invariant
      ∙ sym (fold-stayed c.args.number c.cancel-mask.result c.loop-d.d _ (sym c.has_bit.ensures ∙ w.if-has_bit.false))
]

pub returns-clause-cancelled : goal.returns-clause-cancelled
returns-clause-cancelled g c =
    let message = c.in_ok-get_mut.field-0.now in
    let found = sym c.get_mut.ensures.item ∙ ap option_copied_mut c.in_ok-get_mut.was in
    let written = rw c.in_ok-get_mut.was at (c.get_mut.follows.holds (record { content = message.content; slots = c.cancel-mask.new.self })) in
    cancel-done (has_bit c.args.among) c.args.number c.cancel-mask.result c.loop-d.d (g.S.RowStore.rows c.args.rows.now) _ (g.S.RowStore.rows c.loop-d.rows) message c.cancel-mask.new.self
    c.numbers_rise.ensures found c.cancel-mask.ensures.slots c.cancel-mask.ensures.mask written (omega arith) c.loop-d.invariant

pub returns-clause-unchanged : goal.returns-clause-unchanged
returns-clause-unchanged g c = λ nothing.
    let zero : c.cancel-mask.result ≡ 0 = cc in
    let found = sym c.get_mut.ensures.item ∙ ap option_copied_mut c.in_ok-get_mut.was in
    let idle = λ (d : ℕ). sym (c.cancel-mask.ensures.mask d) ∙ rw zero (no_bits d) in
    returns-clause-cancelled g c ∙ cancel-idle c.args.number (has_bit c.args.among) (g.S.RowStore.rows c.args.rows.now) c.in_ok-get_mut.field-0.now c.numbers_rise.ensures found idle
