-- Five delimiters, one by one and two by two.
use Rattle.std.proofs.Common.{◌≡◌, ℕ, Bool, true, false, not, List, [], ◌∷◌, ◌++◌, refl, sym, ap, ◌∙◌, nat_eq, inl, inr}
use Rattle.std.proofs.lemmas.Bool.{and_parts, and_right, cases_Bool, false≢true, ne_eqb, eq-eqb}
use Rattle.std.specs.Char.{is_ascii_graphic, is_ascii_alphanumeric}
use Rattle.std.specs.List.{list_all}
use Rattle.er7_tree.specs.Delims.{Delims, is_delimiter, all_distinct, lacks}
use Rattle.er7_tree.specs.inner.Delims.{AreDelims, delimiters}

pub not_true : (x : Bool) → not x ≡ true → x ≡ false
not_true true is = absurd (false≢true is)
not_true false is = refl

pub swapped : (a b : ℕ) → nat_eq a b ≡ false → nat_eq b a ≡ false
swapped a b other = ne_eqb b a (λ same. false≢true (sym other ∙ eq-eqb a b (sym same)))

pub list_all_at : (test : ℕ → Bool) (front : List ℕ) (x : ℕ) (back : List ℕ) → list_all test (front ++ x ∷ back) ≡ true → test x ≡ true
list_all_at test [] x back all = (and_parts (test x) (list_all test back) all).0
list_all_at test (y ∷ front) x back all = list_all_at test front x back (and_parts (test y) (list_all test (front ++ x ∷ back)) all).1

all_distinct_at : (front : List ℕ) (x : ℕ) (middle : List ℕ) (y : ℕ) (back : List ℕ) → all_distinct (front ++ x ∷ (middle ++ y ∷ back)) ≡ true → nat_eq y x ≡ false
all_distinct_at [] x middle y back distinct =
    not_true (nat_eq y x) (list_all_at (λ c. not (nat_eq c x)) middle y back (and_parts (lacks x (middle ++ y ∷ back)) (all_distinct (middle ++ y ∷ back)) distinct).0)
all_distinct_at (z ∷ front) x middle y back distinct =
    all_distinct_at front x middle y back (and_parts (lacks z (front ++ x ∷ (middle ++ y ∷ back))) (all_distinct (front ++ x ∷ (middle ++ y ∷ back))) distinct).1

-- a letter or digit is no delimiter
pub apart : (c e : ℕ) → is_delimiter e ≡ true → is_ascii_alphanumeric c ≡ true → nat_eq c e ≡ false
apart c e is word = ne_eqb c e (λ same. false≢true (sym (no_delimiter c word) ∙ ap is_delimiter same ∙ is)) where
  no_delimiter : (c : ℕ) → is_ascii_alphanumeric c ≡ true → is_delimiter c ≡ false
  no_delimiter c word = rw word (and_right (is_ascii_graphic c) false refl)

pub no_word : (e : ℕ) → is_delimiter e ≡ true → is_ascii_alphanumeric e ≡ false
no_word e is = elim (cases_Bool (is_ascii_alphanumeric e)) [
  | inl word ↦ absurd (false≢true (sym (apart e e is word) ∙ eq-eqb e e refl))
  | inr other ↦ other
]

pub record Five (d : Delims) : Type 0 where
  pub field : is_delimiter d.field ≡ true
  pub component : is_delimiter d.component ≡ true
  pub repetition : is_delimiter d.repetition ≡ true
  pub escape : is_delimiter d.escape ≡ true
  pub subcomponent : is_delimiter d.subcomponent ≡ true
  pub escape_field : nat_eq d.escape d.field ≡ false
  pub escape_component : nat_eq d.escape d.component ≡ false
  pub escape_repetition : nat_eq d.escape d.repetition ≡ false
  pub escape_subcomponent : nat_eq d.escape d.subcomponent ≡ false
  pub component_field : nat_eq d.component d.field ≡ false
  pub repetition_field : nat_eq d.repetition d.field ≡ false
  pub subcomponent_field : nat_eq d.subcomponent d.field ≡ false
  pub component_repetition : nat_eq d.component d.repetition ≡ false
  pub subcomponent_repetition : nat_eq d.subcomponent d.repetition ≡ false
  pub subcomponent_component : nat_eq d.subcomponent d.component ≡ false

pub five : (d : Delims) → AreDelims d → Five d
five d good =
    let parts = and_parts (list_all is_delimiter (delimiters d)) (all_distinct (delimiters d)) good.declared in
    record {
      field = list_all_at is_delimiter [] d.field (d.component ∷ d.repetition ∷ d.escape ∷ d.subcomponent ∷ []) parts.0;
      component = list_all_at is_delimiter (d.field ∷ []) d.component (d.repetition ∷ d.escape ∷ d.subcomponent ∷ []) parts.0;
      repetition = list_all_at is_delimiter (d.field ∷ d.component ∷ []) d.repetition (d.escape ∷ d.subcomponent ∷ []) parts.0;
      escape = list_all_at is_delimiter (d.field ∷ d.component ∷ d.repetition ∷ []) d.escape (d.subcomponent ∷ []) parts.0;
      subcomponent = list_all_at is_delimiter (d.field ∷ d.component ∷ d.repetition ∷ d.escape ∷ []) d.subcomponent [] parts.0;
      escape_field = all_distinct_at [] d.field (d.component ∷ d.repetition ∷ []) d.escape (d.subcomponent ∷ []) parts.1;
      escape_component = all_distinct_at (d.field ∷ []) d.component (d.repetition ∷ []) d.escape (d.subcomponent ∷ []) parts.1;
      escape_repetition = all_distinct_at (d.field ∷ d.component ∷ []) d.repetition [] d.escape (d.subcomponent ∷ []) parts.1;
      escape_subcomponent = swapped d.subcomponent d.escape (all_distinct_at (d.field ∷ d.component ∷ d.repetition ∷ []) d.escape [] d.subcomponent [] parts.1);
      component_field = all_distinct_at [] d.field [] d.component (d.repetition ∷ d.escape ∷ d.subcomponent ∷ []) parts.1;
      repetition_field = all_distinct_at [] d.field (d.component ∷ []) d.repetition (d.escape ∷ d.subcomponent ∷ []) parts.1;
      subcomponent_field = all_distinct_at [] d.field (d.component ∷ d.repetition ∷ d.escape ∷ []) d.subcomponent [] parts.1;
      component_repetition = swapped d.repetition d.component (all_distinct_at (d.field ∷ []) d.component [] d.repetition (d.escape ∷ d.subcomponent ∷ []) parts.1);
      subcomponent_repetition = all_distinct_at (d.field ∷ d.component ∷ []) d.repetition (d.escape ∷ []) d.subcomponent [] parts.1;
      subcomponent_component = all_distinct_at (d.field ∷ []) d.component (d.repetition ∷ d.escape ∷ []) d.subcomponent [] parts.1;
    }
