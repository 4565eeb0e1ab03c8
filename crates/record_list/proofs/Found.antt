-- The row of a number: its node, and what a change there does to the rows.
use Rattle.std.proofs.Common.{◌≡◌, ◌||◌, ℕ, true, false, cond, List, [], ◌∷◌, refl, ap}
use Rattle.std.specs.Prelude.{find}
use Rattle.std.specs.declared.option.Option.TheVariants.{None, Some}
use Rattle.row_store.specs.declared.Row.{Row}
use Rattle.row_store.specs.Rows.{is_row, is_in_queue}
use Rattle.row_store.specs.inner.Rows.{is_linked, changed_at, removed}
use Rattle.row_store.proofs.Places.{changed_at-missing, removed-missing, is_linked-missing}
use Rattle.record_list.specs.declared.links.Node.{Node}
use Rattle.record_list.specs.inner.Chain.{row_of, rows_of, change_node}
use Rattle.record_list.specs.inner.Held.{find_node, drop_node, IsHeld}
use Rattle.record_list.specs.inner.Stands.{NodesRise}
use Rattle.record_list.proofs.Numbers.{number_eq}
use Rattle.record_list.proofs.Rising.{rise-tail, others-missing}

module _ {T : Type 0} where
  -- the node of that number
  pub record Found (n : ℕ) (hs : List (Node T)) : Type 0 where
    pub node : Node T
    pub found : find_node n hs ≡ Some node
    pub row_is : find (is_row n) (rows_of hs) ≡ Some (row_of node)
    pub linked_is : (d : ℕ) → is_linked n d (rows_of hs) ≡ is_in_queue d (row_of node)
    pub changed_is : (f : Node T → Node T) (g : Row T → Row T) → ((x : Node T) → row_of (f x) ≡ g (row_of x)) → rows_of (change_node n f hs) ≡ changed_at n g (rows_of hs)
    pub removed_is : rows_of (drop_node n hs) ≡ removed n (rows_of hs)

  found_here : (n : ℕ) (h : Node T) (hs : List (Node T)) → NodesRise (h ∷ hs) → is_row n (row_of h) ≡ true → Found n (h ∷ hs)
  found_here n h hs rise named =
      let missing = others-missing n (row_of h) (rows_of hs) rise (number_eq h.head.number n named) in
      record {
        node = h;
        found = rw named refl;
        row_is = rw named refl;
        linked_is = λ d. rw (named, is_linked-missing n d (rows_of hs) missing) (elim (is_in_queue d (row_of h)) as (λ b. (b || false) ≡ b) [ true ↦ refl | false ↦ refl ]);
        changed_is = λ f g same. rw (named, changed_at-missing n g (rows_of hs) missing) (ap (λ r. r ∷ rows_of hs) (same h));
        removed_is = rw (named, removed-missing n (rows_of hs) missing) refl;
      }

  found_later : (n : ℕ) (h : Node T) (hs : List (Node T)) → is_row n (row_of h) ≡ false → Found n hs → Found n (h ∷ hs)
  found_later n h hs other on = record {
    node = on.node;
    found = rw other on.found;
    row_is = rw other on.row_is;
    linked_is = λ d. rw other (on.linked_is d);
    changed_is = λ f g same. rw other (ap (λ rs. (row_of h) ∷ rs) (on.changed_is f g same));
    removed_is = rw other (ap (λ rs. (row_of h) ∷ rs) on.removed_is);
  }

  pub found_at : (n : ℕ) (hs : List (Node T)) → NodesRise hs → IsHeld n hs → Found n hs
  found_at n [] rise is = let none = is.1 in cc
  found_at n (h ∷ hs) rise is = (elim (is_row n (row_of h)) as (λ b. is_row n (row_of h) ≡ b → cond b (Some h) (find_node n hs) ≡ Some is.0 → Found n (h ∷ hs)) [
    | true ↦ λ named e. found_here n h hs rise named
    | false ↦ λ other e. found_later n h hs other (found_at n hs (rise-tail (row_of h) (rows_of hs) rise) (is.0, e))
  ]) refl is.1

  -- there is no such row: no list changes
  pub record Absent (n : ℕ) (rows : List (Row T)) : Type 0 where
    pub row_is : find (is_row n) rows ≡ None
    pub linked_is : (d : ℕ) → is_linked n d rows ≡ false
    pub changed_is : (g : Row T → Row T) → changed_at n g rows ≡ rows
    pub removed_is : removed n rows ≡ rows

  pub absent_at : (n : ℕ) (hs : List (Node T)) → find_node n hs ≡ None → Absent n (rows_of hs)
  absent_at n [] is = record { row_is = refl; linked_is = λ d. refl; changed_is = λ g. refl; removed_is = refl }
  absent_at n (h ∷ hs) is = (elim (is_row n (row_of h)) as (λ b. is_row n (row_of h) ≡ b → cond b (Some h) (find_node n hs) ≡ None → Absent n (rows_of (h ∷ hs))) [
    | true ↦ λ named e. cc
    | false ↦ λ other e.
        let on = absent_at n hs e in
        record {
          row_is = rw other on.row_is;
          linked_is = λ d. rw other (on.linked_is d);
          changed_is = λ g. rw other (ap (λ rs. (row_of h) ∷ rs) (on.changed_is g));
          removed_is = rw other (ap (λ rs. (row_of h) ∷ rs) on.removed_is);
        }
  ]) refl is
