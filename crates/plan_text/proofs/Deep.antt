-- A condition that was read is no deeper than it may be.
use Rattle.std.proofs.Common.{◌≡◌, ℕ, zero, suc, ◌≤◌, List, [], ◌∷◌, ◌++◌, codes, Bool, true, false, if◌then◌else◌, Option, Some, None, Result, Ok, Err, refl, arith}
use Rattle.std.specs.Str.{bytes_eq}
use Rattle.toml.specs.Data.{Data, Items, Members}
use Rattle.hl7_filter.specs.Condition.{Condition, equals, one_of, exists, starts, contains, all, any, negated, Conditions, most_levels, nesting}
use Rattle.hl7_filter.specs.View.{conditions_of}
use Rattle.plan_text.specs.declared.fault.PlanFaultKind.TheVariants as name
use Rattle.plan_text.specs.declared.fault.PlanFault.{PlanFault}
use Rattle.er7_tree.specs.Tree.{◌>>=◌}
use Rattle.plan_text.specs.Fault.{fault_at}
use Rattle.plan_text.specs.Keys.{key_path, table_at, each}
use Rattle.plan_text.specs.Conditions.{on_piece, by_key, condition_key, with_one_key, condition, filter_at}
use Rattle.plan_text.proofs.Laws.{bound, each_after-keeps}

-- a reader gives conditions of at most so many levels
abbrev Within : ℕ → Result Condition PlanFault → Type 0
Within n r = (c : Condition) → r ≡ Ok c → nesting c ≤ n

either : (n : ℕ) (b : Bool) (r s : Result Condition PlanFault) → Within n r → Within n s → Within n (if b then r else s)
either n true r s p q = p
either n false r s p q = q

-- a condition that holds no other
single : {A : Type 0} (n : ℕ) (r : Result A PlanFault) (f : A → Condition) → ((x : A) → nesting (f x) ≡ 1) → Within (suc n) (r >>= λ x. Ok (f x))
single n (Ok x) f one c h = let same : f x ≡ c = cc in rw (← same, one x) (omega arith)
single n (Err e) f one c h = cc

most_levels-push : (cs : List Condition) (c : Condition) (n : ℕ) → most_levels (conditions_of cs) ≤ n → nesting c ≤ n → most_levels (conditions_of (cs ++ c ∷ [])) ≤ n
most_levels-push [] c n h k = omega (arith, h, k)
most_levels-push (d ∷ cs) c n h k = omega (arith, h, most_levels-push cs c n (omega (arith, h)) k)

listed : (n : ℕ) (r : Result Items PlanFault) (inner : List ℕ → Data → Result Condition PlanFault) (at : List ℕ) (f : Conditions → Condition)
    → ((path : List ℕ) (d : Data) → Within n (inner path d)) → ((cs : Conditions) → nesting (f cs) ≡ suc (most_levels cs))
    → Within (suc n) (r >>= each inner at >>= λ cs. Ok (f (conditions_of cs)))
listed n (Err e) inner at f shallow is c h = cc
listed n (Ok items) inner at f shallow is c h =
    let cs = bound (each inner at items) (λ cs. Ok (f (conditions_of cs))) c h in
    let few = each_after-keeps (λ before. inner) at (λ cs. most_levels (conditions_of cs) ≤ n) (λ before path d x so_far read. most_levels-push before x n so_far (shallow path d x read)) [] items cs.0 (omega arith) cs.1.0 in
    let same : f (conditions_of cs.0) ≡ c = let e = cs.1.1 in cc in
    rw (← same, is (conditions_of cs.0)) (omega (arith, few))

turned : (n : ℕ) (r : Result Data PlanFault) (inner : Data → Result Condition PlanFault) → ((d : Data) → Within n (inner d)) → Within (suc n) (r >>= inner >>= λ c. Ok (negated c))
turned n (Err e) inner shallow c h = cc
turned n (Ok d) inner shallow c h =
    let inside = bound (inner d) (λ x. Ok (negated x)) c h in
    let few = shallow d inside.0 inside.1.0 in
    let same : negated inside.0 ≡ c = let e = inside.1.1 in cc in
    rw (← same) (omega (arith, few))

on_piece-levels : (n : ℕ) (at : List ℕ) (t : Members) (k : List ℕ) → Within (suc n) (on_piece at t k)
unfolding on_piece
on_piece-levels n at t k =
    either (suc n) (bytes_eq k (codes "one_of")) _ _ (single n _ (λ p. one_of p.0 p.1) (λ _. refl))
    (either (suc n) (bytes_eq k (codes "exists")) _ _ (single n _ exists (λ _. refl))
    (either (suc n) (bytes_eq k (codes "equals")) _ _ (single n _ (λ p. equals p.0 p.1) (λ _. refl))
    (either (suc n) (bytes_eq k (codes "starts")) _ _ (single n _ (λ p. starts p.0 p.1) (λ _. refl))
    (single n _ (λ p. contains p.0 p.1) (λ _. refl)))))

by_key-levels : (n : ℕ) (inner : List ℕ → Data → Result Condition PlanFault) (at : List ℕ) (t : Members) (k : List ℕ) → ((path : List ℕ) (d : Data) → Within n (inner path d)) → Within (suc n) (by_key inner at t k)
unfolding by_key
by_key-levels n inner at t k shallow =
    either (suc n) (bytes_eq k (codes "all")) _ _ (listed n _ inner (key_path at k) all shallow (λ _. refl))
    (either (suc n) (bytes_eq k (codes "any")) _ _ (listed n _ inner (key_path at k) any shallow (λ _. refl))
    (either (suc n) (bytes_eq k (codes "not")) _ _ (turned n _ (inner (key_path at k)) (shallow (key_path at k))) (on_piece-levels n at t k)))

pub condition-levels : (n : ℕ) (at : List ℕ) (d : Data) → Within n (condition n at d)
unfolding condition with_one_key
condition-levels zero at d c h =
    let t = bound (table_at at d) _ c h in
    let k = bound (condition_key at t.0) (λ k. Err (fault_at name.TooMany at)) c t.1.1 in
    let e = k.1.1 in cc
condition-levels (suc n) at d c h =
    let t = bound (table_at at d) _ c h in
    let k = bound (condition_key at t.0) (by_key (condition n) at t.0) c t.1.1 in
    by_key-levels n (condition n) at t.0 k.0 (condition-levels n) c k.1.1

-- a filter that was read is at most 16 deep
pub filter-levels : (at : List ℕ) (v : Option Data) (filter : Option Condition) (c : Condition) → filter_at at v ≡ Ok filter → filter ≡ Some c → nesting c ≤ 16
unfolding filter_at
filter-levels at None filter c h is = cc
filter-levels at (Some d) filter c h is =
    let read = bound (condition 16 at d) (λ c. Ok (Some c)) filter h in
    let same : read.0 ≡ c = let e = read.1.1 in cc in
    condition-levels 16 at d c (rw (← same) read.1.0)
