use Rattle.std.proofs.Common.{◌≡◌, ℕ, ◌∙◌, ap, arith}
use Rattle.std.specs.Prelude.{sum_by}
use Rattle.std.specs.List.{range_with_len}
use Rattle.book_resume.specs.inner.Owing.{message_owed, owed_at}
use Rattle.book_resume.proofs.OwedBegun.{sum-below}
use Rattle.book_resume.proofs.owing.message_owed.Goals as goal

pub loop-d-preserved : goal.loop-d-preserved
loop-d-preserved c =
    let more = sum-below (owed_at c.args.plan.now c.args.slots.now) c.loop-d.d in
    (omega (arith, more), omega arith)

pub returns-clause-value : goal.returns-clause-value
unfolding message_owed
returns-clause-value c =
    let whole : c.loop-d.d ≡ 32 = omega arith in
    c.loop-d.invariant.0 ∙ ap (λ (k : ℕ). sum_by (owed_at c.args.plan.now c.args.slots.now) (range_with_len 0 k)) whole
