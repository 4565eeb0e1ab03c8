use Rattle.std.proofs.Common.{◌≡◌, ◌<◌, sym, ◌∙◌, ap, arith}
use Rattle.event_log.specs.Answers.{mask_where, waits_among}
use Rattle.event_log.proofs.Masks.{mask_below}
use Rattle.sequential_book.proofs.Adding.{mask-with, mask-without}
use Rattle.sequential_book.proofs.engine.SequentialBook.waiting_mask.Goals as goal
use Rattle.sequential_book.proofs.engine.SequentialBook.waiting_mask.Goals.{then-branch, else-branch}

pub loop-d-preserved : goal.loop-d-preserved
loop-d-preserved c =
    let test = waits_among c.args.self.now c.args.number c.args.among in
    let below : c.loop-d.d < 32 = omega arith in
    elim c.if-branch.branch [
      | then-branch w ↦ w.mask-is ∙ mask-with test c.loop-d.mask c.loop-d.d below c.loop-d.invariant (sym c.in_ok-waits_among.ensures ∙ w.if-branch.true)
      | else-branch w ↦ w.mask-is ∙ mask-without test c.loop-d.mask c.loop-d.d c.loop-d.invariant (sym c.in_ok-waits_among.ensures ∙ w.if-branch.false)
    ]

pub returns : goal.returns
unfolding mask_where
returns c =
    let all : c.loop-d.d ≡ 32 = omega arith in
    c.loop-d.invariant ∙ ap (λ k. mask_below k (waits_among c.args.self.now c.args.number c.args.among)) all
