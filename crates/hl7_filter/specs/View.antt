-- The condition that a `Cond` means.
use Rattle.std.specs.Prelude.{List, [], ◌∷◌}
use Rattle.hl7_filter.specs.Condition.{Condition, Conditions, no_conditions, condition}

-- a list of conditions
abbrev pub conditions_of : List Condition → Conditions
conditions_of [] = no_conditions
conditions_of (c ∷ cs) = condition c (conditions_of cs)
