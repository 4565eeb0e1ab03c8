use Rattle.std.proofs.Common.{◌∙◌, ap}
use Rattle.judge_core.specs.Judging.{is_bookable}
use Rattle.judge_core.specs.inner.Judging.{is_booked}
use Rattle.judge_core.proofs.Judgements.{booked-verdict}
use Rattle.judge_core.proofs.judged.Judged.bookable.Goals as goal

pub returns : goal.returns
returns c =
    c.is_booked.ensures ∙ (ap is_booked c.self.invariant.verdict_is ∙ (booked-verdict _ _ _ ∙ ap (λ j. is_bookable j.raw) c.self.view_is))
