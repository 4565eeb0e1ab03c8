-- The first unknown key of a sorted map is the least.
use Rattle.std.proofs.Common.{◌≡◌, ℕ, List, [], ◌∷◌, Bool, true, false, not, filter, Option, None, Some, Less, if◌then◌else◌, refl, sym, ◌∙◌, String, string_bytes, nat_cmp}
use Rattle.std.specs.declared.alloc.Global.{Global}
use Rattle.std.specs.Cmp.Lexicographic.{slice_cmp}
use Rattle.std.specs.List.{AllByRecursion}
use Rattle.std.specs.List.Sorted.{IsStrictlySortedBy}
use Rattle.std.specs.Map.{keys_of as map_keys}
use Rattle.std.specs.Option.{IfSome}
use Rattle.std.specs.Ordering.{is_lt}
use Rattle.std.specs.String.{string_cmp}
use Rattle.toml.specs.View.{members_view}
use Rattle.toml.specs.declared.value.Value.{Value}
use Rattle.plan_text.specs.Keys.{keys_of, lesser, least, unknown_key}

-- what holds of the keys holds of the least
lesser_has : (Q : List ℕ → Type 0) (k : List ℕ) (o : Option (List ℕ)) → Q k → IfSome o Q → Q (lesser k o)
lesser_has Q k None q h = q
lesser_has Q k (Some l) q h = elim (is_lt (slice_cmp nat_cmp k l)) as (λ b. Q (if b then k else l)) [ true ↦ q | false ↦ h ]

least_has : (Q : List ℕ → Type 0) (ks : List (List ℕ)) → AllByRecursion Q ks → IfSome (least ks) Q
least_has Q [] h = tt
least_has Q (k ∷ ks) h = lesser_has Q k (least ks) h.0 (least_has Q ks h.1)

kept : (Q : List ℕ → Type 0) (p : List ℕ → Bool) (ks : List (List ℕ)) → AllByRecursion Q ks → AllByRecursion Q (filter p ks)
kept Q p [] h = tt
kept Q p (k ∷ ks) h = elim (p k) as (λ b. AllByRecursion Q (if b then k ∷ filter p ks else filter p ks)) [ true ↦ (h.0, kept Q p ks h.1) | false ↦ kept Q p ks h.1 ]

above : (k : String Global) (es : List (String Global × Value)) → AllByRecursion (λ y. string_cmp k y ≡ Less) (map_keys es)
    → AllByRecursion (λ l. slice_cmp nat_cmp (string_bytes k) l ≡ Less) (keys_of (members_view es))
above k [] h = tt
above k (e ∷ es) h = (h.0, above k es h.1)

lesser_is : (k : List ℕ) (o : Option (List ℕ)) → IfSome o (λ l. slice_cmp nat_cmp k l ≡ Less) → lesser k o ≡ k
lesser_is k None h = refl
lesser_is k (Some l) h = rw h refl

-- the first of the keys that isn't known
abbrev pub first_unknown : (List ℕ → Bool) → List (String Global) → Option (List ℕ)
first_unknown is_known [] = None
first_unknown is_known (k ∷ ks) = if is_known (string_bytes k) then first_unknown is_known ks else Some (string_bytes k)

pub unknown_key-keys : (is_known : List ℕ → Bool) (es : List (String Global × Value)) → IsStrictlySortedBy string_cmp (map_keys es)
    → unknown_key is_known (members_view es) ≡ first_unknown is_known (map_keys es)
unfolding IsStrictlySortedBy
unknown_key-keys is_known [] h = refl
unknown_key-keys is_known (e ∷ es) h =
    let k = string_bytes e.0 in
    let rest = unknown_key is_known (members_view es) in
    let all_above = kept (λ l. slice_cmp nat_cmp k l ≡ Less) (λ l. not (is_known l)) (keys_of (members_view es)) (above e.0 es h.0) in
    let is_least : lesser k rest ≡ k = lesser_is k rest (least_has (λ l. slice_cmp nat_cmp k l ≡ Less) _ all_above) in
    by_test (is_known k) is_least (unknown_key-keys is_known es h.1)
  where
    by_test : (b : Bool) → lesser (string_bytes e.0) (unknown_key is_known (members_view es)) ≡ string_bytes e.0 → unknown_key is_known (members_view es) ≡ first_unknown is_known (map_keys es)
        → least (if not b then string_bytes e.0 ∷ filter (λ l. not (is_known l)) (keys_of (members_view es)) else filter (λ l. not (is_known l)) (keys_of (members_view es)))
        ≡ (if b then first_unknown is_known (map_keys es) else Some (string_bytes e.0))
    by_test true is rest = rest
    by_test false is rest = rw is refl

pub passes : (is_known : List ℕ → Bool) (total : Option (List ℕ)) (s t : List (String Global)) (k : String Global) → total ≡ first_unknown is_known s → s ≡ k ∷ t → is_known (string_bytes k) ≡ true → total ≡ first_unknown is_known t
passes is_known total s t k so_far e test = so_far ∙ (rw (e, test) refl)

pub stops : (is_known : List ℕ → Bool) (total : Option (List ℕ)) (s t : List (String Global)) (k : String Global) → total ≡ first_unknown is_known s → s ≡ k ∷ t → is_known (string_bytes k) ≡ false → Some (string_bytes k) ≡ total
stops is_known total s t k so_far e test = sym (so_far ∙ (rw (e, test) refl))

pub ends : (is_known : List ℕ → Bool) (total : Option (List ℕ)) (s : List (String Global)) → total ≡ first_unknown is_known s → s ≡ [] → None ≡ total
ends is_known total s so_far e = sym (so_far ∙ (rw e refl))
