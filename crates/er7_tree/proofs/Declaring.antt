-- What a header declares, by the places of its bytes.
use Rattle.std.proofs.Common.{◌≡◌, subst, not, ℕ, ◌<◌, ◌≤◌, ◌-◌, take, Bool, true, false, ◌&&◌, List, [], ◌∷◌, ◌++◌, length, drop, get_or, Some, None, refl, sym, ap, ◌∙◌, arith, nat_eq, cond, nat_le}
use Rattle.std.proofs.lemmas.Bool.{and_parts, and_from, and_left, and_right, le-leb, lt-leb, cond-true, cond-false}
use Rattle.std.proofs.lemmas.List.{take_rest}
use Rattle.std.specs.List.{list_all, before_first}
use Rattle.er7_tree.specs.Delims.{Delims, lacks, all_distinct, are_delimiters, delims_of, declared_by}
use Rattle.er7_tree.specs.inner.Delims.{AreDelims}

declares : (header : List ℕ) → 4 ≤ length header → delims_of header ≡ declared_by (get_or header 3 0) (before_first (λ b. nat_eq b (get_or header 3 0)) (drop 4 header))
declares [] long = absurd (omega arith)
declares (a ∷ []) long = absurd (omega arith)
declares (a ∷ b ∷ []) long = absurd (omega arith)
declares (a ∷ b ∷ c ∷ []) long = absurd (omega arith)
declares (a ∷ b ∷ c ∷ d ∷ rest) long = refl

abbrev pub delims_at : ℕ → List ℕ → Delims
delims_at field characters = record { field = field; component = get_or characters 0 0; repetition = get_or characters 1 0; escape = get_or characters 2 0; subcomponent = get_or characters 3 0 }

pub too_few : (field : ℕ) (characters : List ℕ) → length characters < 4 → declared_by field characters ≡ None
too_few field [] short = refl
too_few field (a ∷ []) short = refl
too_few field (a ∷ b ∷ []) short = refl
too_few field (a ∷ b ∷ c ∷ []) short = refl
too_few field (a ∷ b ∷ c ∷ d ∷ rest) short = absurd (omega arith)

enough : (field : ℕ) (characters : List ℕ) → 4 ≤ length characters
    → declared_by field characters ≡ cond (nat_le (length (drop 4 characters)) 1 && are_delimiters (field ∷ characters)) (Some (delims_at field characters)) None
enough field [] long = absurd (omega arith)
enough field (a ∷ []) long = absurd (omega arith)
enough field (a ∷ b ∷ []) long = absurd (omega arith)
enough field (a ∷ b ∷ c ∷ []) long = absurd (omega arith)
enough field (a ∷ b ∷ c ∷ d ∷ rest) long = refl

list_all_front : (test : ℕ → Bool) (front rest : List ℕ) → list_all test (front ++ rest) ≡ true → list_all test front ≡ true
list_all_front test [] rest all = refl
list_all_front test (x ∷ front) rest all = let parts = and_parts _ _ all in and_from _ _ parts.0 (list_all_front test front rest parts.1)

all_distinct_front : (front rest : List ℕ) → all_distinct (front ++ rest) ≡ true → all_distinct front ≡ true
all_distinct_front [] rest all = refl
all_distinct_front (x ∷ front) rest all = let parts = and_parts _ _ all in and_from _ _ (list_all_front _ front rest parts.0) (all_distinct_front front rest parts.1)

are_delimiters_front : (front rest : List ℕ) → are_delimiters (front ++ rest) ≡ true → are_delimiters front ≡ true
are_delimiters_front front rest all = let parts = and_parts _ _ all in and_from _ _ (list_all_front _ front rest parts.0) (all_distinct_front front rest parts.1)

pub first_five : (field : ℕ) (characters : List ℕ) → 4 ≤ length characters → are_delimiters (field ∷ characters) ≡ true
    → are_delimiters (field ∷ get_or characters 0 0 ∷ get_or characters 1 0 ∷ get_or characters 2 0 ∷ get_or characters 3 0 ∷ []) ≡ true
first_five field [] long all = absurd (omega arith)
first_five field (a ∷ []) long all = absurd (omega arith)
first_five field (a ∷ b ∷ []) long all = absurd (omega arith)
first_five field (a ∷ b ∷ c ∷ []) long all = absurd (omega arith)
first_five field (a ∷ b ∷ c ∷ d ∷ rest) long all = are_delimiters_front (field ∷ a ∷ b ∷ c ∷ d ∷ []) rest all

-- what is declared may be
chosen : (allowed : Bool) (d declared : Delims) → cond allowed (Some d) None ≡ Some declared → (allowed ≡ true) × (d ≡ declared)
chosen true d declared is = (refl, cc)
chosen false d declared is = cc

declared_good : (field : ℕ) (characters : List ℕ) (d : Delims) → declared_by field characters ≡ Some d → AreDelims d
declared_good field [] d is = cc
declared_good field (c ∷ []) d is = cc
declared_good field (c ∷ r ∷ []) d is = cc
declared_good field (c ∷ r ∷ e ∷ []) d is = cc
declared_good field (c ∷ r ∷ e ∷ s ∷ extra) d is =
    let parts = chosen (nat_le (length extra) 1 && are_delimiters (field ∷ c ∷ r ∷ e ∷ s ∷ extra)) _ d is in
    let first : AreDelims (delims_at field (c ∷ r ∷ e ∷ s ∷ extra)) =
    record { declared = first_five field (c ∷ r ∷ e ∷ s ∷ extra) (omega arith) (and_parts (nat_le (length extra) 1) (are_delimiters (field ∷ c ∷ r ∷ e ∷ s ∷ extra)) parts.0).1 } in
    subst AreDelims parts.1 first

pub declares_good : (header : List ℕ) (d : Delims) → delims_of header ≡ Some d → AreDelims d
declares_good [] d is = cc
declares_good (a ∷ []) d is = cc
declares_good (a ∷ b ∷ []) d is = cc
declares_good (a ∷ b ∷ c ∷ []) d is = cc
declares_good (a ∷ b ∷ c ∷ field ∷ rest) d is = declared_good field (before_first (λ b. nat_eq b field) rest) d is

-- the parts of a slice pattern
module _ (header characters : List ℕ) (long : 4 ≤ length header) (first : characters ≡ before_first (λ b. nat_eq b (get_or header 3 0)) (take (length header - 4) (drop 4 header))) where
  reads : delims_of header ≡ declared_by (get_or header 3 0) characters
  reads = declares header long ∙ ap (declared_by (get_or header 3 0)) (ap (before_first (λ b. nat_eq b (get_or header 3 0))) (sym (take_rest header 4)) ∙ sym first)

  pub reads_few : length characters < 4 → None ≡ delims_of header
  reads_few short = sym (reads ∙ too_few (get_or header 3 0) characters short)

  pub reads_long : 4 ≤ length characters → 1 < length (take (length characters - 4) (drop 4 characters)) → None ≡ delims_of header
  reads_long enough_characters more =
      let extra : 1 < length (drop 4 characters) = rw take_rest at more in
      sym (reads ∙ enough (get_or header 3 0) characters enough_characters ∙ cond-false _ (Some (delims_at (get_or header 3 0) characters)) None (and_left _ _ (lt-leb _ _ extra)))

  pub reads_bad : 4 ≤ length characters → are_delimiters (get_or header 3 0 ∷ characters) ≡ false → None ≡ delims_of header
  reads_bad enough_characters bad = sym (reads ∙ enough (get_or header 3 0) characters enough_characters ∙ cond-false _ (Some (delims_at (get_or header 3 0) characters)) None (and_right _ _ bad))

  pub reads_well : 4 ≤ length characters → length (take (length characters - 4) (drop 4 characters)) ≤ 1 → are_delimiters (get_or header 3 0 ∷ characters) ≡ true → Some (delims_at (get_or header 3 0) characters) ≡ delims_of header
  reads_well enough_characters few good =
      let extra : length (drop 4 characters) ≤ 1 = rw take_rest at few in
      sym (reads ∙ enough (get_or header 3 0) characters enough_characters ∙ cond-true _ (Some (delims_at (get_or header 3 0) characters)) None (and_from _ _ (le-leb _ _ extra) good))

-- the field separator that is declared is the fourth byte
declared_same : (field : ℕ) (characters : List ℕ) (d : Delims) → declared_by field characters ≡ Some d → d.field ≡ field
declared_same field [] d is = cc
declared_same field (c ∷ []) d is = cc
declared_same field (c ∷ r ∷ []) d is = cc
declared_same field (c ∷ r ∷ e ∷ []) d is = cc
declared_same field (c ∷ r ∷ e ∷ s ∷ extra) d is =
    sym (ap (λ (d : Delims). d.field) (chosen (nat_le (length extra) 1 && are_delimiters (field ∷ c ∷ r ∷ e ∷ s ∷ extra)) _ d is).1)

pub declared_field : (b : ℕ) (header : List ℕ) (d : Delims) → delims_of header ≡ Some d → lacks b header ≡ true → lacks b (d.field ∷ []) ≡ true
declared_field b [] d is bare = cc
declared_field b (x ∷ []) d is bare = cc
declared_field b (x ∷ y ∷ []) d is bare = cc
declared_field b (x ∷ y ∷ z ∷ []) d is bare = cc
declared_field b (x ∷ y ∷ z ∷ field ∷ rest) d is bare =
    let same = declared_same field (before_first (λ b. nat_eq b field) rest) d is in
    let first = and_parts (not (nat_eq x b)) (lacks b (y ∷ z ∷ field ∷ rest)) bare in
    let second = and_parts (not (nat_eq y b)) (lacks b (z ∷ field ∷ rest)) first.1 in
    let third = and_parts (not (nat_eq z b)) (lacks b (field ∷ rest)) second.1 in
    let fourth = and_parts (not (nat_eq field b)) (lacks b rest) third.1 in
    rw (same, fourth.0) refl
