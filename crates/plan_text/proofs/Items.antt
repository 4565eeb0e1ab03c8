-- The members of a list, read one after the other.
use Rattle.std.proofs.Common.{◌≡◌, ℕ, ◌+◌, ◌<◌, List, [], ◌∷◌, ◌++◌, length, map, drop, get_or, Result, Ok, Err, refl, sym, ap, ◌∙◌, add-one}
use Rattle.toml.specs.Data.{Data}
use Rattle.toml.specs.View.{view, items_view}
use Rattle.toml.specs.declared.value.Value.{Value}
use Rattle.std.proofs.lemmas.List.{map-append, length-map}
use Rattle.toml.proofs.Views.{items_view-drop}
use Rattle.plan_text.specs.declared.fault.Stop.{Stop}
use Rattle.plan_text.specs.declared.fault.Stop.TheVariants as stop
use Rattle.plan_text.specs.declared.fault.PlanFault.{PlanFault}
use Rattle.plan_text.specs.inner.Fault.{Fails}
use Rattle.plan_text.specs.Keys.{item_count, each_after, member_path}

pub item_count_view : (vs : List Value) → item_count (items_view vs) ≡ length vs
item_count_view [] = refl
item_count_view (v ∷ vs) = ap (λ n. n + 1) (item_count_view vs) ∙ add-one (length vs)

-- `seen` is the list of those read so far as it was lent, and v the member at i
module _ {A : Type 0} (read : List A → List ℕ → Data → Result A PlanFault) (at : List ℕ) where
  pub goes_on : (done seen : List A) (vs : List Value) (i : ℕ) (v : Value) (x : A) (total : Result (List A) PlanFault) → i < length vs → seen ≡ done → v ≡ get_or vs i v
      → read seen (member_path at (length seen)) (view v) ≡ Ok x
      → each_after read at done (items_view (drop i vs)) ≡ total → each_after read at (done ++ x ∷ []) (items_view (drop (i + 1) vs)) ≡ total
  goes_on done seen vs i v x total lt same is h so_far =
      let h' : read done (member_path at (length done)) (view (get_or vs i v)) ≡ Ok x = rw (← same, ← is) h in
      let one : each_after read at done (items_view (drop i vs)) ≡ each_after read at (done ++ x ∷ []) (items_view (drop (i + 1) vs)) = rw (items_view-drop vs i v lt, h') refl in
      sym one ∙ so_far

  pub ends : (e : Stop) (done seen : List A) (vs : List Value) (i : ℕ) (v : Value) (total : Result (List A) PlanFault) → i < length vs → seen ≡ done → v ≡ get_or vs i v
      → Fails e (read seen (member_path at (length seen)) (view v))
      → each_after read at done (items_view (drop i vs)) ≡ total → Fails e total
  ends stop.NoMemory done seen vs i v total lt same is h so_far = tt
  ends (stop.Fault f) done seen vs i v total lt same is h so_far =
      let h' : read done (member_path at (length done)) (view (get_or vs i v)) ≡ Err f = rw (← same, ← is) h in
      sym so_far ∙ (rw (items_view-drop vs i v lt, h') refl)

-- the same, where those read so far are seen by `see`
pub goes_on_seen : {X A : Type 0} (see : X → A) (read : List ℕ → Data → Result A PlanFault) (at : List ℕ) (done : List X) (vs : List Value) (i : ℕ) (v : Value) (x : X) (total : Result (List A) PlanFault)
    → i < length vs → v ≡ get_or vs i v → read (member_path at (length done)) (view v) ≡ Ok (see x)
    → each_after (λ before. read) at (map see done) (items_view (drop i vs)) ≡ total
    → each_after (λ before. read) at (map see (done ++ x ∷ [])) (items_view (drop (i + 1) vs)) ≡ total
goes_on_seen see read at done vs i v x total lt is h so_far =
    rw (map-append see done (x ∷ [])) (goes_on (λ before. read) at (map see done) (map see done) vs i v (see x) total lt refl is (rw (length-map done see) h) so_far)

pub ends_seen : {X A : Type 0} (see : X → A) (read : List ℕ → Data → Result A PlanFault) (at : List ℕ) (e : Stop) (done : List X) (vs : List Value) (i : ℕ) (v : Value) (total : Result (List A) PlanFault)
    → i < length vs → v ≡ get_or vs i v → Fails e (read (member_path at (length done)) (view v))
    → each_after (λ before. read) at (map see done) (items_view (drop i vs)) ≡ total → Fails e total
ends_seen see read at e done vs i v total lt is bad so_far =
    ends (λ before. read) at e (map see done) (map see done) vs i v total lt refl is (rw (length-map done see) bad) so_far
