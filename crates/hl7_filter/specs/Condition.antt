-- Conditions on a message, and when each is true.
use Rattle.std.specs.Prelude.{ℕ, suc, max, List, [], ◌∷◌, Bool, true, false, not, ◌&&◌, ◌||◌, nat_eq}
use Rattle.std.specs.List.{list_any, starts_with}
use Rattle.std.specs.Str.{bytes_eq}
use Rattle.er7_tree.specs.Path.{Place, raw, value}
use Rattle.er7_tree.specs.Pieces.{is_vacant}
use Rattle.er7_tree.specs.Tree.{Tree}

-- what a condition says of the piece at a place, and how conditions are put together
mutual
  pub data Condition : Type 0 where
    equals : Place → List ℕ → Condition
    one_of : Place → List (List ℕ) → Condition
    exists : Place → Condition
    starts : Place → List ℕ → Condition
    contains : Place → List ℕ → Condition
    all : Conditions → Condition
    any : Conditions → Condition
    negated : Condition → Condition
    deriving Discrete as Condition-discrete

  pub data Conditions : Type 0 where
    no_conditions : Conditions
    condition : Condition → Conditions → Conditions

-- the value contains the text
abbrev pub occurs_in : List ℕ → List ℕ → Bool
occurs_in text [] = starts_with nat_eq [] text
occurs_in text (b ∷ bs) = starts_with nat_eq (b ∷ bs) text || occurs_in text bs

-- the value is one of the texts
abbrev pub is_one_of : List (List ℕ) → List ℕ → Bool
is_one_of texts value = list_any (bytes_eq value) texts

-- whether a condition is true of a message
abbrev mutual
  pub truth : Tree → Condition → Bool
  truth t (equals place text) = bytes_eq (value t place) text
  truth t (one_of place texts) = is_one_of texts (value t place)
  truth t (exists place) = not (is_vacant (raw t place))
  truth t (starts place text) = starts_with nat_eq (value t place) text
  truth t (contains place text) = occurs_in text (value t place)
  truth t (all conditions) = all_true t conditions
  truth t (any conditions) = any_true t conditions
  truth t (negated c) = not (truth t c)

  pub all_true : Tree → Conditions → Bool
  all_true t no_conditions = true
  all_true t (condition c cs) = truth t c && all_true t cs

  pub any_true : Tree → Conditions → Bool
  any_true t no_conditions = false
  any_true t (condition c cs) = truth t c || any_true t cs

-- how deep conditions are nested: one that holds no other is one level
abbrev mutual
  pub nesting : Condition → ℕ
  nesting (all conditions) = suc (most_levels conditions)
  nesting (any conditions) = suc (most_levels conditions)
  nesting (negated c) = suc (nesting c)
  nesting _ = 1

  pub most_levels : Conditions → ℕ
  most_levels no_conditions = 0
  most_levels (condition c cs) = max (nesting c) (most_levels cs)
