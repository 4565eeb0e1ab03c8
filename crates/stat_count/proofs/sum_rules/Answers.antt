use Rattle.std.proofs.Common.{◌≡◌, ◌+◌, ℕ, ◌∙◌, add-zero, arith}
use Rattle.stat_count.specs.inner.Statistics.{filtered_one, accepted_one, refused_one, repeated_one, waits_one, taken_one, delivered_one, failed_one, again_one, cancelled_one}
use Rattle.stat_count.proofs.SumLaws.{arrivals-more, takes-more, settlements-more}
use Rattle.stat_count.proofs.sum_rules.Goals as goal

same : (a b : ℕ) → a ≡ b + 0 → a ≡ b
same a b e = e ∙ add-zero b

pub returns-clause-arrivals : goal.returns-clause-arrivals
returns-clause-arrivals c = λ statistics channel inside. (arrivals-more statistics channel 1 filtered_one inside (omega arith), arrivals-more statistics channel 1 accepted_one inside (omega arith), arrivals-more statistics channel 1 refused_one inside (omega arith), arrivals-more statistics channel 1 repeated_one inside (omega arith))

pub returns-clause-takes : goal.returns-clause-takes
returns-clause-takes c = λ statistics d inside. (takes-more statistics d 1 taken_one inside (omega arith), same _ _ (settlements-more statistics d 0 taken_one inside (omega arith)))

pub returns-clause-settlements : goal.returns-clause-settlements
returns-clause-settlements c = λ statistics d inside some taken. (settlements-more statistics d 1 delivered_one inside (omega arith), settlements-more statistics d 1 failed_one inside (omega arith), settlements-more statistics d 1 again_one inside (omega arith))

pub returns-clause-settled_takes : goal.returns-clause-settled_takes
returns-clause-settled_takes c = λ statistics d inside. (same _ _ (takes-more statistics d 0 delivered_one inside (omega arith)), same _ _ (takes-more statistics d 0 failed_one inside (omega arith)), same _ _ (takes-more statistics d 0 again_one inside (omega arith)))

pub returns-clause-neither : goal.returns-clause-neither
returns-clause-neither c = λ statistics d inside. (same _ _ (takes-more statistics d 0 waits_one inside (omega arith)), same _ _ (takes-more statistics d 0 cancelled_one inside (omega arith)), same _ _ (settlements-more statistics d 0 waits_one inside (omega arith)), same _ _ (settlements-more statistics d 0 cancelled_one inside (omega arith)))
