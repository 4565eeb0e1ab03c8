-- The node of a number, among nodes that lie in the order of their numbers.
use Rattle.std.specs.Prelude.{◌≡◌, ℕ, suc, ◌==◌, cond, List, [], ◌∷◌, slice_set}
use Rattle.std.specs.declared.option.Option.{Option}
use Rattle.std.specs.declared.option.Option.TheVariants.{None, Some}
use Rattle.record_list.specs.declared.links.Node.{Node}

module _ {T : Type 0} where
  -- where the node of that number stands, or how many nodes there are
  abbrev pub index_in : ℕ → List (Node T) → ℕ
  index_in number [] = 0
  index_in number (h ∷ hs) = cond (h.head.number == number) 0 (suc (index_in number hs))

  -- the node of that number, if there is one
  abbrev pub find_node : ℕ → List (Node T) → Option (Node T)
  find_node number [] = None
  find_node number (h ∷ hs) = cond (h.head.number == number) (Some h) (find_node number hs)

  -- the same nodes with w in place of that of the number
  abbrev pub set_node : ℕ → Node T → List (Node T) → List (Node T)
  set_node number w hs = slice_set hs (index_in number hs) w

  -- all but the node of that number
  abbrev pub drop_node : ℕ → List (Node T) → List (Node T)
  drop_node number [] = []
  drop_node number (h ∷ hs) = cond (h.head.number == number) hs (h ∷ drop_node number hs)

  -- there is a node of that number
  abbrev pub IsHeld : ℕ → List (Node T) → Type 0
  IsHeld number hs = (x : Node T) × (find_node number hs ≡ Some x)
