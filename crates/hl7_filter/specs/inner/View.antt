-- What proofs use beside the page View.
use Rattle.std.specs.Prelude.{◌≡◌, Bool, List, map}
use Rattle.std.specs.Bool.{Decides}
use Rattle.std.specs.Cmp.{IsPartialEquivalence, IsEquivalence}
use Rattle.hl7_filter.specs.inner.ByView.{by_view_laws, by_view_equiv}
use Rattle.hl7_filter.specs.Condition.{Condition, equals, one_of, exists, starts, contains, all, any, negated, Conditions}
use Rattle.hl7_filter.specs.inner.Same.{same_condition, same_condition-Decides}
use Rattle.hl7_filter.specs.declared.condition.Cond.{Cond, fold-Cond}
use Rattle.hl7_filter.specs.declared.condition.Cond.TheOpen.{Cond-F}
use Rattle.hl7_filter.specs.View.{conditions_of}

-- one level, with each condition inside already seen
abbrev pub view_step : Cond-F Condition → Condition
view_step (Cond-F.Equals path text) = equals path text
view_step (Cond-F.OneOf path texts) = one_of path texts.items
view_step (Cond-F.Exists path) = exists path
view_step (Cond-F.Starts path text) = starts path text
view_step (Cond-F.Contains path text) = contains path text
view_step (Cond-F.All conds) = all (conditions_of conds.items)
view_step (Cond-F.Any conds) = any (conditions_of conds.items)
view_step (Cond-F.Not cond) = negated cond.value

-- the condition that a `Cond` says
abbrev pub view : Cond → Condition
view = fold-Cond Condition view_step

-- the conditions that a list of them says
abbrev pub conditions_view : List Cond → Conditions
conditions_view conds = conditions_of (map view conds)

-- two conditions say the same
abbrev pub same : Cond → Cond → Bool
same c d = same_condition (view c) (view d)

-- which is so exactly where what they say is one
pub same-Decides : (c d : Cond) → Decides (same c d) (view c ≡ view d)
same-Decides c d = same_condition-Decides (view c) (view d)

-- the laws of `==`
pub same_laws : IsPartialEquivalence same
same_laws = by_view_laws view same same-Decides

pub same_equiv : IsEquivalence same
same_equiv = by_view_equiv view same same-Decides
