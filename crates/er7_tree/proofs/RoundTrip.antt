-- What was escaped is read again.
use Rattle.std.specs.Option.{option_map_or}
use Rattle.std.proofs.Common.{nat_lt, zero, suc, ◌+◌, ◌-◌, ◌≤◌, Bool, not, take, drop, get_or, append_assoc, ◌≡◌, ℕ, Option, Some, None, option_map, map, subst, inl, inr, ◌<◌, true, false, List, [], ◌∷◌, ◌++◌, length, refl, sym, ap, ◌∙◌, arith, nat_eq}
use Rattle.std.proofs.lemmas.Bool.{and_right, and_from, ltb-false, false≢true, and_parts, cases_Bool, ne_eqb, eq-eqb, eqb-true, cond_both}
use Rattle.std.proofs.lemmas.List.{take_rest, take_all, drop_all, append-nil, drop_more}
use Rattle.std.proofs.lemmas.List.Folds.{list_all-append}
use Rattle.std.proofs.lemmas.List.Quantifiers.{position-Some}
use Rattle.std.proofs.lemmas.List.Sums.{fails_before_first}
use Rattle.std.specs.Char.{is_ascii_alphanumeric}
use Rattle.std.specs.List.{onto_first, list_all, position, position_or_len}
use Rattle.er7_tree.specs.Delims.{Delims, is_delimiter, lacks}
use Rattle.er7_tree.specs.inner.Delims.{AreDelims}
use Rattle.er7_tree.specs.Pieces.{split}
use Rattle.er7_tree.specs.Escape.{plain, plain_pieces, meaning, sequence, letters, controls, bare_or_digits, escaped, escape}
use Rattle.er7_tree.specs.inner.Escape.{special, reserved}
use Rattle.er7_tree.proofs.Distinct.{apart, no_word, not_true, five}
use Rattle.er7_tree.proofs.Escaping.{some_piece, closed}

onto_plain : (d : Delims) (b : ℕ) (pieces : List (List ℕ)) → 0 < length pieces → plain_pieces d (onto_first b pieces) ≡ b ∷ plain_pieces d pieces
onto_plain d b [] some = absurd (omega arith)
onto_plain d b (text ∷ []) some = refl
onto_plain d b (text ∷ inner ∷ []) some = refl
onto_plain d b (text ∷ inner ∷ next ∷ pieces) some = refl

plain_byte : (d : Delims) (b : ℕ) (rest : List ℕ) → nat_eq b d.escape ≡ false → plain d (b ∷ rest) ≡ b ∷ plain d rest
plain_byte d b rest other = rw other (onto_plain d b (split d.escape rest) (some_piece d.escape rest))

-- a sequence of one character
plain_one : (d : Delims) (c : ℕ) (rest : List ℕ) → nat_eq c d.escape ≡ false → plain d (sequence d (c ∷ []) ++ rest) ≡ meaning d (c ∷ []) ++ plain d rest
plain_one d c rest other =
    let same : nat_eq d.escape d.escape ≡ true = eq-eqb d.escape d.escape refl in
    rw (same, other) (closed d [] (c ∷ []) (split d.escape rest) (some_piece d.escape rest))

-- and of three
plain_three : (d : Delims) (a b c : ℕ) (rest : List ℕ) → nat_eq a d.escape ≡ false → nat_eq b d.escape ≡ false → nat_eq c d.escape ≡ false
    → plain d (sequence d (a ∷ b ∷ c ∷ []) ++ rest) ≡ meaning d (a ∷ b ∷ c ∷ []) ++ plain d rest
plain_three d a b c rest first second third =
    let same : nat_eq d.escape d.escape ≡ true = eq-eqb d.escape d.escape refl in
    simp (same, first, second, third) (closed d [] (a ∷ b ∷ c ∷ []) (split d.escape rest) (some_piece d.escape rest))

-- the ways in which a byte is written: by a letter, by hexadecimal digits, as it is
module _ (d : Delims) (b : ℕ) (P : List ℕ → Type 0)
    (by_letter : (c : ℕ) → is_ascii_alphanumeric c ≡ true → meaning d (c ∷ []) ≡ b ∷ [] → P (sequence d (c ∷ [])))
    (by_digits : (x high low : ℕ) → is_ascii_alphanumeric x ≡ true → is_ascii_alphanumeric high ≡ true → is_ascii_alphanumeric low ≡ true
    → meaning d (x ∷ high ∷ low ∷ []) ≡ b ∷ [] → P (sequence d (x ∷ high ∷ low ∷ [])))
    (bare : lacks b (special d) ≡ true → P (b ∷ [])) where
  means : (meant : ℕ) → nat_eq meant b ≡ true → meant ∷ [] ≡ b ∷ []
  means meant same = ap (λ x. x ∷ []) (eqb-true meant b same)

  Other : ℕ → Type 0
  Other x = P (bare_or_digits d x)

  other : lacks b (map (λ entry. entry.1) (letters d)) ≡ true → P (bare_or_digits d b)
  unfolding Other
  other no_letter =
      elim (cases_Bool (nat_eq 13 b)) [
        | inl same ↦ subst Other (eqb-true 13 b same) (by_digits 88 48 68 refl refl refl (means 13 same))
        | inr no_13 ↦ elim (cases_Bool (nat_eq 11 b)) [
          | inl same ↦ subst Other (eqb-true 11 b same) (by_digits 88 48 66 refl refl refl (means 11 same))
          | inr no_11 ↦ elim (cases_Bool (nat_eq 28 b)) [
            | inl same ↦ subst Other (eqb-true 28 b same) (by_digits 88 49 67 refl refl refl (means 28 same))
            | inr no_28 ↦ elim (cases_Bool (nat_eq 10 b)) [
              | inl same ↦ subst Other (eqb-true 10 b same) (by_digits 88 48 65 refl refl refl (means 10 same))
              | inr no_10 ↦ rw (no_13, no_11, no_28, no_10) (bare (list_all-append (λ c. not (nat_eq c b)) (map (λ entry. entry.1) (letters d)) controls ∙ and_from _ _ no_letter (rw (no_13, no_11, no_28, no_10) refl)))
            ]
          ]
        ]
      ]

  Entry : Option (ℕ × ℕ) → Type 0
  Entry o = P (option_map_or (λ letter. sequence d (letter ∷ [])) (option_map (λ entry. entry.0) o) (bare_or_digits d b))

  pub ways : P (escaped d b)
  unfolding Entry
  ways =
      cond_both _ _ _ Entry (λ same. by_letter 70 refl (means d.field same)) (λ no_field.
      cond_both _ _ _ Entry (λ same. by_letter 83 refl (means d.component same)) (λ no_component.
      cond_both _ _ _ Entry (λ same. by_letter 84 refl (means d.subcomponent same)) (λ no_subcomponent.
      cond_both _ _ _ Entry (λ same. by_letter 82 refl (means d.repetition same)) (λ no_repetition.
      cond_both _ _ _ Entry (λ same. by_letter 69 refl (means d.escape same)) (λ no_escape.
      other (rw (no_field, no_component, no_subcomponent, no_repetition, no_escape) refl))))))

-- a byte is among those where it stands
lacks-here : (c : ℕ) (front back : List ℕ) → lacks c (front ++ c ∷ back) ≡ false
lacks-here c [] back = rw (eq-eqb c c refl) refl
lacks-here c (x ∷ front) back = and_right _ _ (lacks-here c front back)

-- two bytes of which one is among others are two
other_than : (b c : ℕ) (xs : List ℕ) → lacks b xs ≡ true → lacks c xs ≡ false → nat_eq b c ≡ false
other_than b c xs lack has = ne_eqb b c (λ same. false≢true (sym has ∙ ap (λ x. lacks x xs) (sym same) ∙ lack))

pub escape_is_special : (d : Delims) → lacks d.escape (special d) ≡ false
escape_is_special d = lacks-here d.escape (d.field ∷ d.component ∷ d.subcomponent ∷ d.repetition ∷ []) controls

back_at : (d : Delims) → AreDelims d → (b : ℕ) (rest : List ℕ) → plain d (escaped d b ++ rest) ≡ b ∷ plain d rest
back_at d good b rest =
    let Back : List ℕ → Type 0 = λ text. plain d (text ++ rest) ≡ b ∷ plain d rest in
    let is = (five d good).escape in
    ways d b Back
    (λ c word means. plain_one d c rest (apart c d.escape is word) ∙ ap (λ read. read ++ plain d rest) means)
    (λ x high low word_x word_high word_low means.
    plain_three d x high low rest (apart x d.escape is word_x) (apart high d.escape is word_high) (apart low d.escape is word_low) ∙ ap (λ read. read ++ plain d rest) means)
    (λ bare. plain_byte d b rest (other_than b d.escape (special d) bare (escape_is_special d)))

-- what was escaped means what it was
pub plain-escape : (d : Delims) → AreDelims d → (value : List ℕ) → plain d (escape d value) ≡ value
plain-escape d good [] = refl
plain-escape d good (b ∷ value) = back_at d good b (escape d value) ∙ ap (λ more. b ∷ more) (plain-escape d good value)

not_special : (c b : ℕ) (cs : List ℕ) → lacks b (c ∷ cs) ≡ true → (nat_eq c b ≡ false) × (lacks b cs ≡ true)
not_special c b cs lack = let parts = and_parts (not (nat_eq c b)) (lacks b cs) lack in (not_true (nat_eq c b) parts.0, parts.1)

-- a byte that is written as it is
escaped_bare : (d : Delims) (b : ℕ) → lacks b (special d) ≡ true → escaped d b ≡ b ∷ []
escaped_bare d b lack =
    let field = not_special d.field b (d.component ∷ d.subcomponent ∷ d.repetition ∷ d.escape ∷ controls) lack in
    let component = not_special d.component b (d.subcomponent ∷ d.repetition ∷ d.escape ∷ controls) field.1 in
    let subcomponent = not_special d.subcomponent b (d.repetition ∷ d.escape ∷ controls) component.1 in
    let repetition = not_special d.repetition b (d.escape ∷ controls) subcomponent.1 in
    let escape = not_special d.escape b controls repetition.1 in
    let control : lacks b controls ≡ true = escape.1 in
    rw (field.0, component.0, subcomponent.0, repetition.0, escape.0, control) refl

-- a run of such bytes
escape-run : (d : Delims) (text : List ℕ) (i : ℕ) → i ≤ length text → ((k : ℕ) → k < i → not (lacks (get_or text k 0) (special d)) ≡ false) → escape d text ≡ take i text ++ escape d (drop i text)
escape-run d text zero within bare = refl
escape-run d [] (suc i) within bare = refl
escape-run d (b ∷ text) (suc i) within bare =
    rw (escaped_bare d b (from_not_false (lacks b (special d)) (bare 0 (omega arith)))) (ap (λ more. b ∷ more) (escape-run d text i (omega arith) (λ k below. bare (suc k) (omega arith)))) where
      from_not_false : (x : Bool) → not x ≡ false → x ≡ true
      from_not_false true is = refl
      from_not_false false is = absurd (false≢true (sym is))

pub escape-cut : (d : Delims) (text : List ℕ) (i : ℕ) → position (λ b. not (lacks b (special d))) text ≡ Some i
    → escape d text ≡ (take i text ++ escaped d (get_or text i 0)) ++ escape d (take (length text - (i + 1)) (drop (i + 1) text))
escape-cut d text i found =
    let here = position-Some (λ b. not (lacks b (special d))) text i 0 found in
    let front = escape-run d text i (omega (arith, here.0)) here.2 in
    let next = drop_more text i 0 here.0 in
    rw (take_rest, append_assoc) (front ∙ ap (λ rest. take i text ++ escape d rest) next)

unfound : (test : ℕ → Bool) (text : List ℕ) → position test text ≡ None → length text ≤ position_or_len test text
unfound test text none =
    elim (cases_Bool (nat_lt (position_or_len test text) (length text))) [
      | inl below ↦ let found : Some (position_or_len test text) ≡ None = rw below at none in cc
      | inr above ↦ ltb-false _ _ above
    ]

pub escape-bare : (d : Delims) (text : List ℕ) → position (λ b. not (lacks b (special d))) text ≡ None → escape d text ≡ text
escape-bare d text none =
    let past : length text ≤ position_or_len (λ b. not (lacks b (special d))) text = unfound _ text none in
    let run = escape-run d text (length text) (omega arith) (λ k below. fails_before_first (λ b. not (lacks b (special d))) text k 0 (omega arith)) in
    run ∙ rw (take_all (length text) text (omega arith), drop_all (length text) text (omega arith)) (append-nil text)

pub reads_back : (d : Delims) (value text : List ℕ) → AreDelims d → text ≡ escape d value → plain d text ≡ value
reads_back d value text good is = rw is (plain-escape d good value)

-- what an escaped text never holds
module _ (d : Delims) (r : ℕ) (no_word_is : is_ascii_alphanumeric r ≡ false) (no_escape : nat_eq d.escape r ≡ false) (kept_out : lacks r (special d) ≡ false) where
  word_is_not : (c : ℕ) → is_ascii_alphanumeric c ≡ true → nat_eq c r ≡ false
  word_is_not c word = ne_eqb c r (λ same. false≢true (sym no_word_is ∙ ap is_ascii_alphanumeric (sym same) ∙ word))

  lacks-escaped : (b : ℕ) → lacks r (escaped d b) ≡ true
  lacks-escaped b =
      ways d b (λ text. lacks r text ≡ true)
      (λ c word means. rw (no_escape, word_is_not c word) refl)
      (λ x high low word_x word_high word_low means. rw (no_escape, word_is_not x word_x, word_is_not high word_high, word_is_not low word_low) refl)
      (λ bare. rw (other_than b r (special d) bare kept_out) refl)

  pub lacks-escape : (value : List ℕ) → lacks r (escape d value) ≡ true
  lacks-escape [] = refl
  lacks-escape (b ∷ value) = list_all-append (λ c. not (nat_eq c r)) (escaped d b) (escape d value) ∙ and_from _ _ (lacks-escaped b) (lacks-escape value)

pub escape-reserved : (d : Delims) → AreDelims d → (value : List ℕ) → list_all (λ b. lacks b (escape d value)) (reserved d) ≡ true
escape-reserved d good value =
    let parts = five d good in
    let control : (r : ℕ) → is_ascii_alphanumeric r ≡ false → is_delimiter r ≡ false → lacks r (special d) ≡ false → lacks r (escape d value) ≡ true =
    λ r other isnt here. lacks-escape d r other (ne_eqb d.escape r (λ same. false≢true (sym isnt ∙ ap is_delimiter (sym same) ∙ parts.escape))) here value in
    let letters : List ℕ = d.field ∷ d.component ∷ d.subcomponent ∷ d.repetition ∷ d.escape ∷ [] in
    and_from _ _ (lacks-escape d d.field (no_word d.field parts.field) parts.escape_field (lacks-here d.field [] (d.component ∷ d.subcomponent ∷ d.repetition ∷ d.escape ∷ controls)) value)
    (and_from _ _ (lacks-escape d d.component (no_word d.component parts.component) parts.escape_component (lacks-here d.component (d.field ∷ []) (d.subcomponent ∷ d.repetition ∷ d.escape ∷ controls)) value)
    (and_from _ _ (lacks-escape d d.repetition (no_word d.repetition parts.repetition) parts.escape_repetition (lacks-here d.repetition (d.field ∷ d.component ∷ d.subcomponent ∷ []) (d.escape ∷ controls)) value)
    (and_from _ _ (lacks-escape d d.subcomponent (no_word d.subcomponent parts.subcomponent) parts.escape_subcomponent (lacks-here d.subcomponent (d.field ∷ d.component ∷ []) (d.repetition ∷ d.escape ∷ controls)) value)
    (and_from _ _ (control 13 refl refl (lacks-here 13 letters (11 ∷ 28 ∷ 10 ∷ [])))
    (and_from _ _ (control 11 refl refl (lacks-here 11 (letters ++ 13 ∷ []) (28 ∷ 10 ∷ [])))
    (and_from _ _ (control 28 refl refl (lacks-here 28 (letters ++ 13 ∷ 11 ∷ []) (10 ∷ [])))
    (and_from _ _ (control 10 refl refl (lacks-here 10 (letters ++ 13 ∷ 11 ∷ 28 ∷ []) [])) refl)))))))

-- a step of writing
pub escape-step : (d : Delims) (value rest out copied done : List ℕ) (i : ℕ) → position (λ b. not (lacks b (special d))) rest ≡ Some i
    → copied ≡ out ++ take i rest → done ≡ copied ++ escaped d (get_or rest i 0) → out ++ escape d rest ≡ escape d value
    → done ++ escape d (take (length rest - (i + 1)) (drop (i + 1) rest)) ≡ escape d value
escape-step d value rest out copied done i found is_copied is_done so_far =
    rw (is_done, is_copied) (simp append_assoc (simp append_assoc at (ap (λ text. out ++ text) (sym (escape-cut d rest i found)) ∙ so_far)))

pub found_special : (d : Delims) (text : List ℕ) (i : ℕ) → position (λ b. not (lacks b (special d))) text ≡ Some i → lacks (get_or text i 0) (special d) ≡ false
found_special d text i found = not_true (lacks (get_or text i 0) (special d)) (position-Some (λ b. not (lacks b (special d))) text i 0 found).1

pub escape-end : (d : Delims) (value rest out done : List ℕ) → position (λ b. not (lacks b (special d))) rest ≡ None → done ≡ out ++ rest → out ++ escape d rest ≡ escape d value → done ≡ escape d value
escape-end d value rest out done none is so_far = is ∙ ap (λ text. out ++ text) (sym (escape-bare d rest none)) ∙ so_far
