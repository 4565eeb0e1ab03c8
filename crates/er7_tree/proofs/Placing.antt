-- Places of segments, and the spans that stay.
use Rattle.std.proofs.Common.{◌≡◌, ℕ, zero, suc, ◌+◌, ◌-◌, ◌<◌, ◌≤◌, Bool, true, false, List, [], ◌∷◌, ◌++◌, length, take, drop, set, get_or, map, Some, None, refl, sym, ap, ◌∙◌, arith, inl, inr, nat_eq, add-one, add-zero, length-set, length-drop, length-append, get_or-set_same, get_or-set_other}
use Rattle.std.proofs.lemmas.Bool.{cases_Bool, false≢true, eqb-true, eq-eqb, ne_eqb}
use Rattle.std.proofs.lemmas.List.{get_or-map, get_or-drop, drop-set-lt, drop-drop, take_more, take_more_set, length-map, get_or_past, map-append}
use Rattle.std.specs.List.{filter, find}
use Rattle.er7_tree.specs.declared.segments.Span.{Span}
use Rattle.er7_tree.specs.inner.Spans.{InOrder, covered}
use Rattle.er7_tree.specs.Edit.{change_segment}
use Rattle.er7_tree.specs.Path.{segment_at}
use Rattle.er7_tree.proofs.Spanning.{covered_kept, covered_added, in_order_push, in_order_to}
use Rattle.er7_tree.specs.Tree.{has_name}
use Rattle.er7_tree.specs.inner.Tree.{IsOccurrence}

-- one more element is tested
module _ {X : Type 0} (p : X → Bool) where
  more_yes : (xs : List X) (i : ℕ) (d : X) → i < length xs → p (get_or xs i d) ≡ true → filter p (take (suc i) xs) ≡ filter p (take i xs) ++ get_or xs i d ∷ []
  more_yes [] i d below passes = absurd (omega arith)
  more_yes (x ∷ xs) zero d below passes = rw passes refl
  more_yes (x ∷ xs) (suc i) d below passes =
      let later = more_yes xs i d (omega arith) passes in
      elim (cases_Bool (p x)) [
        | inl stays ↦ rw (stays, later) refl
        | inr goes ↦ rw (goes, later) refl
      ]

  pub filter_more_yes : (xs : List X) (i : ℕ) (d : X) → i < length xs → p (get_or xs i d) ≡ true → filter p (take (i + 1) xs) ≡ filter p (take i xs) ++ get_or xs i d ∷ []
  filter_more_yes xs i d below passes = rw add-one (more_yes xs i d below passes)

  more_no : (xs : List X) (i : ℕ) (d : X) → i < length xs → p (get_or xs i d) ≡ false → filter p (take (suc i) xs) ≡ filter p (take i xs)
  more_no [] i d below fails = absurd (omega arith)
  more_no (x ∷ xs) zero d below fails = rw fails refl
  more_no (x ∷ xs) (suc i) d below fails =
      let later = more_no xs i d (omega arith) fails in
      elim (cases_Bool (p x)) [
        | inl stays ↦ rw (stays, later) refl
        | inr goes ↦ rw (goes, later) refl
      ]

  pub filter_more_no : (xs : List X) (i : ℕ) (d : X) → i < length xs → p (get_or xs i d) ≡ false → filter p (take (i + 1) xs) ≡ filter p (take i xs)
  filter_more_no xs i d below fails = rw add-one (more_no xs i d below fails)

-- equal rests have equal first elements
pub first_left : {X : Type 0} (xs ys : List X) (i : ℕ) (d : X) → drop i xs ≡ drop i ys → get_or xs i d ≡ get_or ys i d
first_left xs ys i d same =
    ap (λ k. get_or xs k d) (sym (add-zero i)) ∙ sym (get_or-drop i xs 0 d) ∙ ap (λ rest. get_or rest 0 d) same ∙ get_or-drop i ys 0 d ∙ ap (λ k. get_or ys k d) (add-zero i)

-- and equal rests behind them
pub rest_left : {X : Type 0} (xs ys : List X) (i : ℕ) → drop i xs ≡ drop i ys → drop (i + 1) xs ≡ drop (i + 1) ys
rest_left xs ys i same = sym (drop-drop 1 i xs) ∙ ap (drop 1) same ∙ drop-drop 1 i ys

-- and are as long, where something is left
pub length_left : {X : Type 0} (xs ys : List X) (i : ℕ) → drop i xs ≡ drop i ys → i < length ys → i < length xs
length_left xs ys i same below = omega (arith, ap length same, length-drop i xs, length-drop i ys)

-- a segment at a place of a list that is changed at one place
pub set_step : (segments : List (List ℕ)) (place index : ℕ) (new segment : List ℕ) → index < length segments
    → (index ≡ place → segment ≡ new) → ((index ≡ place → ⊥) → segment ≡ get_or segments index [])
    → take (index + 1) (set segments place new) ≡ take index (set segments place new) ++ segment ∷ []
set_step segments place index new segment below here elsewhere =
    take_more (set segments place new) index [] (omega (arith, length-set segments place new)) ∙ ap (λ piece. take index (set segments place new) ++ piece ∷ []) (sym is) where
      is : segment ≡ get_or (set segments place new) index []
      is =
          elim (cases_Bool (nat_eq index place)) [
            | inl same ↦
                let e : index ≡ place = eqb-true index place same in
                here e ∙ sym (ap (λ k. get_or (set segments k new) index []) (sym e) ∙ get_or-set_same segments index new [] below)
            | inr other ↦
                let apart : index ≡ place → ⊥ = λ e. false≢true (sym other ∙ eq-eqb index place e) in
                elsewhere apart ∙ sym (get_or-set_other segments place index new [] apart)
          ]

-- a test of segments is one of the spans that cover them
pub filter_covered : (text : List ℕ) (p : List ℕ → Bool) (spans : List Span) → map (covered text) (filter (λ span. p (covered text span)) spans) ≡ filter p (map (covered text) spans)
filter_covered text p [] = refl
filter_covered text p (span ∷ spans) =
    elim (cases_Bool (p (covered text span))) [
      | inl stays ↦ rw stays (ap (λ pieces. covered text span ∷ pieces) (filter_covered text p spans))
      | inr goes ↦ rw goes (filter_covered text p spans)
    ]

-- one more segment is counted
pub counted_yes : (p : List ℕ → Bool) (text : List ℕ) (spans : List Span) (i : ℕ) (d : Span) → i < length spans → p (covered text (get_or spans i d)) ≡ true
    → length (filter p (take (i + 1) (map (covered text) spans))) ≡ length (filter p (take i (map (covered text) spans))) + 1
counted_yes p text spans i d below passes =
    let found : p (get_or (map (covered text) spans) i []) ≡ true = ap p (get_or-map (covered text) spans i d [] below) ∙ passes in
    ap length (filter_more_yes p (map (covered text) spans) i [] (omega (arith, length-map spans (covered text))) found)
    ∙ length-append (filter p (take i (map (covered text) spans))) (get_or (map (covered text) spans) i [] ∷ [])

pub counted_no : (p : List ℕ → Bool) (text : List ℕ) (spans : List Span) (i : ℕ) (d : Span) → i < length spans → p (covered text (get_or spans i d)) ≡ false
    → length (filter p (take (i + 1) (map (covered text) spans))) ≡ length (filter p (take i (map (covered text) spans)))
counted_no p text spans i d below fails =
    ap length (filter_more_no p (map (covered text) spans) i [] (omega (arith, length-map spans (covered text))) (ap p (get_or-map (covered text) spans i d [] below) ∙ fails))

-- the segment at the place of the nth of a name is the nth of that name
module _ {X : Type 0} (p : X → Bool) where
  filter_at : (k : ℕ) (xs : List X) (place : ℕ) (d : X) → place < length xs → p (get_or xs place d) ≡ true → length (filter p (take place xs)) ≡ k
      → get_or (filter p xs) k d ≡ get_or xs place d
  filter_at k [] place d below named before = absurd (omega arith)
  filter_at k (x ∷ xs) zero d below named before = let first : k ≡ 0 = sym before in rw (first, named) refl
  filter_at zero (x ∷ xs) (suc place) d below named before =
      elim (cases_Bool (p x)) [
        | inl stays ↦ absurd (omega (arith, rw stays at before))
        | inr goes ↦ rw goes (filter_at zero xs place d (omega arith) named (rw goes at before))
      ]
  filter_at (suc k) (x ∷ xs) (suc place) d below named before =
      elim (cases_Bool (p x)) [
        | inl stays ↦ rw stays (filter_at k xs place d (omega arith) named (omega (arith, rw stays at before)))
        | inr goes ↦ rw goes (filter_at (suc k) xs place d (omega arith) named (rw goes at before))
      ]

pub occurrence_is : (name : List ℕ) (n : ℕ) (segments : List (List ℕ)) (place : ℕ) → IsOccurrence name n segments place → segment_at name n segments ≡ get_or segments place []
occurrence_is name n segments place at = filter_at (has_name name) (n - 1) segments place [] at.within at.named at.before

-- fewer than n of a name: the nth is empty
pub missing_is : (name : List ℕ) (n : ℕ) (segments : List (List ℕ)) → length (filter (has_name name) segments) ≤ n - 1 → segment_at name n segments ≡ []
missing_is name n segments few = get_or_past (filter (has_name name) segments) (n - 1) [] few

-- the first that passes is found at its place
find_at : {X : Type 0} (p : X → Bool) (xs : List X) (place : ℕ) (d : X) → place < length xs → p (get_or xs place d) ≡ true → length (filter p (take place xs)) ≡ 0 → find p xs ≡ Some (get_or xs place d)
find_at p [] place d below named before = absurd (omega arith)
find_at p (x ∷ xs) zero d below named before = rw named refl
find_at p (x ∷ xs) (suc place) d below named before =
    elim (cases_Bool (p x)) [
      | inl stays ↦ absurd (omega (arith, rw stays at before))
      | inr goes ↦ rw goes (find_at p xs place d (omega arith) named (rw goes at before))
    ]

find_none : {X : Type 0} (p : X → Bool) (xs : List X) → length (filter p xs) ≤ 0 → find p xs ≡ None
find_none p [] none = refl
find_none p (x ∷ xs) none =
    elim (cases_Bool (p x)) [
      | inl stays ↦ absurd (omega (arith, rw stays at none))
      | inr goes ↦ rw goes (find_none p xs (rw goes at none))
    ]

pub first_is : (name : List ℕ) (segments : List (List ℕ)) (place : ℕ) → IsOccurrence name 1 segments place → find (has_name name) segments ≡ Some (get_or segments place [])
first_is name segments place at = find_at (has_name name) segments place [] at.within at.named at.before

pub none_is : (name : List ℕ) (segments : List (List ℕ)) → length (filter (has_name name) segments) ≤ 1 - 1 → find (has_name name) segments ≡ None
none_is name segments none = find_none (has_name name) segments none

-- a step of dropping spans
module _ (p : Span → Bool) (old spans : List Span) (place kept : ℕ) (span : Span) (below : place < length old) (behind : kept ≤ place)
    (so_far : take kept spans ≡ filter p (take place old)) (left : drop place spans ≡ drop place old) (here : span ≡ get_or spans place span) where
  pub dropped_here : span ≡ get_or old place span
  dropped_here = here ∙ first_left spans old place span left

  pub drops_kept : (next : ℕ) → next ≡ kept + 1 → p span ≡ true → take next (set spans kept span) ≡ filter p (take (place + 1) old)
  drops_kept next is stays =
      let found : p (get_or old place span) ≡ true = ap p (sym dropped_here) ∙ stays in
      ap (λ n. take n (set spans kept span)) is
      ∙ take_more_set spans kept span (omega (arith, length_left spans old place left below))
      ∙ ap (λ taken. taken ++ span ∷ []) so_far
      ∙ ap (λ last. filter p (take place old) ++ last ∷ []) dropped_here
      ∙ sym (filter_more_yes p old place span below found)

  pub drops_left : drop (place + 1) (set spans kept span) ≡ drop (place + 1) old
  drops_left = drop-set-lt (place + 1) spans kept span (omega arith) ∙ rest_left spans old place left

  pub drops_gone : p span ≡ false → take kept spans ≡ filter p (take (place + 1) old)
  drops_gone goes = so_far ∙ sym (filter_more_no p old place span below (ap p (sym dropped_here) ∙ goes))

-- a step of writing segments one after another
module _ (changed segment : List ℕ) (moved : List Span) (target : List (List ℕ)) (index start end : ℕ) (starts : start ≡ length changed) (ends : end ≡ length (changed ++ segment))
    (in_order : InOrder 0 (length changed) moved) where
  pub writes_more : map (covered changed) moved ≡ take index target → take (index + 1) target ≡ take index target ++ segment ∷ []
      → map (covered (changed ++ segment)) (moved ++ record { start = start; end = end } ∷ []) ≡ take (index + 1) target
  writes_more same next =
      let last : covered (changed ++ segment) (record { start = start; end = end }) ≡ segment =
      ap (λ k. covered (changed ++ segment) (record { start = k; end = end })) starts ∙ ap (λ k. covered (changed ++ segment) (record { start = length changed; end = k })) ends ∙ covered_added changed segment in
      map-append (covered (changed ++ segment)) moved (record { start = start; end = end } ∷ [])
      ∙ ap (λ pieces. pieces ++ covered (changed ++ segment) (record { start = start; end = end }) ∷ []) (covered_kept changed segment 0 moved in_order ∙ same)
      ∙ ap (λ piece. take index target ++ piece ∷ []) last
      ∙ sym next

  pub writes_in_order : InOrder 0 (length (changed ++ segment)) (moved ++ record { start = start; end = end } ∷ [])
  writes_in_order =
      let pushed = in_order_push 0 (length changed) (length (changed ++ segment)) moved (record { start = start; end = end }) in_order
      (record { behind = omega arith; ordered = omega (arith, length-append changed segment); within = omega arith }) in
      in_order_to 0 end (length (changed ++ segment)) (moved ++ record { start = start; end = end } ∷ []) pushed (omega arith)

-- the nth segment of a name is changed at its place
changes_at : (name : List ℕ) (n : ℕ) (f : List ℕ → List ℕ) (segments : List (List ℕ)) (place : ℕ) → 1 ≤ n → place < length segments → has_name name (get_or segments place []) ≡ true
    → length (filter (has_name name) (take place segments)) ≡ n - 1 → change_segment name n f segments ≡ set segments place (f (get_or segments place []))
changes_at name n f [] place counted below named before = absurd (omega arith)
changes_at name n f (segment ∷ segments) zero counted below named before =
    let first : nat_eq n 1 ≡ true = eq-eqb n 1 (omega arith) in rw (named, first) refl
changes_at name n f (segment ∷ segments) (suc place) counted below named before =
    elim (cases_Bool (has_name name segment)) [
      | inl stays ↦
          let later : nat_eq n 1 ≡ false = ne_eqb n 1 (λ first. absurd (omega (arith, rw stays at before))) in
          rw (stays, later) (ap (λ segments. segment ∷ segments) (changes_at name (n - 1) f segments place (omega (arith, rw stays at before)) (omega arith) named (omega (arith, rw stays at before))))
      | inr goes ↦ rw goes (ap (λ segments. segment ∷ segments) (changes_at name n f segments place counted (omega arith) named (rw goes at before)))
    ]

pub changed_at : (name : List ℕ) (n : ℕ) (f : List ℕ → List ℕ) (segments : List (List ℕ)) (place : ℕ) → 1 ≤ n → IsOccurrence name n segments place
    → change_segment name n f segments ≡ set segments place (f (segment_at name n segments))
changed_at name n f segments place counted at =
    changes_at name n f segments place counted at.within at.named at.before ∙ ap (λ segment. set segments place (f segment)) (sym (occurrence_is name n segments place at))
