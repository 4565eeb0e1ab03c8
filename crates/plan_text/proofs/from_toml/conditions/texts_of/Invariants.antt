use Rattle.std.proofs.Common.{◌≡◌, ◌++◌, drop, option_map}
use Rattle.toml.specs.View.{items_view, array_view}
use Rattle.plan_text.specs.Conditions.{all_texts}
use Rattle.plan_text.proofs.from_toml.conditions.texts_of.Given as goal

abbrev pub invariant-loop-value : goal.invariant-loop-value
invariant-loop-value l = option_map (λ ss. l.texts.items ++ ss) (all_texts (items_view (drop l.value-index l.value-items))) ≡ all_texts (array_view l.values)
