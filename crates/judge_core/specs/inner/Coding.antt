-- How judgements are distinguished.
use Rattle.std.specs.Prelude.{ℕ, List, refl}
use Rattle.std.specs.Coded.{Coded, code_by, coded×, coded_ℕ, coded_list}
use Rattle.plan_text.specs.inner.Coding.{plan_code}
use Rattle.plan_text.specs.Entries.{PlanEntry}
use Rattle.judge_core.specs.Judging.{Judgement}

-- a judgement is stored as its plan, its channel and its text
abbrev pub judgement_code : Coded Judgement
judgement_code =
    code_by (PlanEntry × (ℕ × List ℕ)) (coded× plan_code (coded× coded_ℕ (coded_list coded_ℕ)))
    (λ j. (j.plan, (j.channel, j.raw))) (λ p. record { plan = p.0; channel = p.1.0; raw = p.1.1 }) (λ _. refl)
