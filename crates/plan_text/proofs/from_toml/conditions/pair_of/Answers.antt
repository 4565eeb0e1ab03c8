use Rattle.std.proofs.Common.{◌≡◌, length, sym, ◌∙◌, ap, rules}
use Rattle.toml.specs.Data.{array}
use Rattle.toml.specs.View.{view, array_view}
use Rattle.plan_text.specs.Conditions.{pair_of}
use Rattle.plan_text.proofs.Pairs.{array_is, no_pair}
use Rattle.plan_text.proofs.from_toml.conditions.pair_of.Goals as goal

pub returns-then-len-ne2 : goal.returns-then-len-ne2
returns-then-len-ne2 c =
    let e : view c.args.value.now ≡ array (array_view c.in_ok-values.values.now) = array_is _ _ c.in_ok-values.ensures in
    let l : c.len.result ≡ length c.in_ok-values.values.now.items = search rules in
    sym (ap pair_of e ∙ no_pair c.in_ok-values.values.now.items (λ h. c.if-len-ne2.true (l ∙ h)))
