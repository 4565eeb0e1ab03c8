-- What the links end as, once a `&mut` to a node has ended.
use Rattle.std.specs.Borrow.{Fml, RattleType, MutBor, Lends}
use Rattle.std.specs.Prelude.{ℕ}
use Rattle.std.specs.VecDeque.{deque_with_item}
use Rattle.record_list.specs.declared.links.Links.{Links}
use Rattle.record_list.specs.declared.links.Node.{Node}
use Rattle.record_list.specs.contracts.links.Links as L
use Rattle.record_list.specs.contracts.links.Node as N
use Rattle.record_list.specs.inner.Held.{index_in}

-- the node of that number is n, and the reads are v
abbrev pub with_visited : {T : Type 0} → Links T → ℕ → ℕ → Node T → Links T
with_visited s number v n = record s { nodes = deque_with_item s.nodes (index_in number s.nodes.items) n; visits = v }

abbrev pub lends_visit : (R : RattleType) → MutBor (Links R.Denot) → ℕ → ℕ → MutBor (Node R.Denot) → Fml
lends_visit R s number v r = Lends (L.the_row R) (N.the_row R) s r (with_visited s.now number v)
