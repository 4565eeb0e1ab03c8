-- What proofs use beside the page Condition.
use Rattle.std.specs.Prelude.{Bool, true, ◌&&◌}
use Rattle.er7_tree.specs.Delims.{lacks}
use Rattle.er7_tree.specs.Path.{Place, raw}
use Rattle.er7_tree.specs.Tree.{Tree}
use Rattle.hl7_filter.specs.Condition.{Condition, Conditions, equals, one_of, exists, starts, contains, all, any, negated, no_conditions, condition}

-- nothing in the piece at a place is escaped, so that its raw bytes are its value
abbrev pub is_unescaped : Tree → Place → Bool
is_unescaped t place = lacks t.delims.escape (raw t place)

-- nothing is escaped in the pieces whose values a condition compares
abbrev mutual
  pub compares_unescaped : Tree → Condition → Bool
  compares_unescaped t (equals place text) = is_unescaped t place
  compares_unescaped t (one_of place texts) = is_unescaped t place
  compares_unescaped t (exists place) = true
  compares_unescaped t (starts place text) = is_unescaped t place
  compares_unescaped t (contains place text) = is_unescaped t place
  compares_unescaped t (all conditions) = all_compare_unescaped t conditions
  compares_unescaped t (any conditions) = all_compare_unescaped t conditions
  compares_unescaped t (negated c) = compares_unescaped t c

  pub all_compare_unescaped : Tree → Conditions → Bool
  all_compare_unescaped t no_conditions = true
  all_compare_unescaped t (condition c cs) = compares_unescaped t c && all_compare_unescaped t cs
