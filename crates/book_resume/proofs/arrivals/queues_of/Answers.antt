use Rattle.std.proofs.Common.{ℕ, ◌+◌, sym, ◌∙◌, subst, arith}
use Rattle.book_resume.specs.inner.Rows.{lives_at}
use Rattle.book_resume.proofs.MaskBits.{HasBelow, bits-more, bits-same}
use Rattle.book_resume.proofs.arrivals.queues_of.Goals as goal
use Rattle.book_resume.proofs.arrivals.queues_of.Goals.{then-lives_at, else-lives_at}

pub loop-d-preserved : goal.loop-d-preserved
loop-d-preserved c =
    let test = λ (e : ℕ). lives_at e c.args.slots.now in
    elim c.if-lives_at.branch [
      | then-lives_at w ↦
          subst (HasBelow test (c.loop-d.d + 1)) (sym w.mask-is)
          (bits-more test c.loop-d.d c.loop-d.mask (omega arith) c.loop-d.invariant (sym c.lives_at.ensures ∙ w.if-lives_at.true))
      | else-lives_at w ↦
          subst (HasBelow test (c.loop-d.d + 1)) (sym w.mask-is)
          (bits-same test c.loop-d.d c.loop-d.mask (omega arith) c.loop-d.invariant (sym c.lives_at.ensures ∙ w.if-lives_at.false))
    ]
