-- Worked conditions.
use Rattle.std.proofs.Common.{◌≡◌, ℕ, List, [], ◌∷◌, true, false, refl, codes}
use Rattle.er7_tree.specs.declared.path.Part.{Part}
use Rattle.er7_tree.specs.declared.path.Part.TheVariants.{Whole, Component}
use Rattle.er7_tree.specs.Path.{Place}
use Rattle.er7_tree.specs.Tree.{Tree}
use Rattle.hl7_filter.specs.Condition.{equals, one_of, exists, starts, contains, all, any, negated, Conditions, no_conditions, condition, truth, nesting}
use Rattle.hl7_filter.specs.inner.Condition.{compares_unescaped}

-- PID-2 is empty, PID-6 the null value, PID-7 escaped, and PID-9 isn't there
message : Tree
message = record {
  delims = record { field = 124; component = 94; repetition = 126; escape = 92; subcomponent = 38 };
  segments = codes "MSH|^~\\&|REG" ∷ codes "PID|1||77^^^H||DOE^J|\"\"|O\\T\\M" ∷ [];
}

abbrev place : List ℕ → ℕ → Part → Place
place segment field part = record { segment = segment; occurrence = 1; field = field; part = part }

abbrev field : ℕ → Place
field n = place (codes "PID") n Whole

abbrev component : ℕ → ℕ → Place
component n c = place (codes "PID") n (Component 1 c)

empty_exists : truth message (exists (field 2)) ≡ false
unfolding message
empty_exists = refl

null_exists : truth message (exists (field 6)) ≡ false
unfolding message
null_exists = refl

absent_exists : truth message (exists (field 9)) ≡ false
unfolding message
absent_exists = refl

absent_segment_exists : truth message (exists (place (codes "PV1") 2 Whole)) ≡ false
unfolding message
absent_segment_exists = refl

escaped_exists : truth message (exists (field 7)) ≡ true
unfolding message
escaped_exists = refl

component_exists : truth message (exists (component 3 4)) ≡ true
unfolding message
component_exists = refl

empty_equals : truth message (equals (field 2) []) ≡ true
unfolding message
empty_equals = refl

absent_equals : truth message (equals (field 9) []) ≡ true
unfolding message
absent_equals = refl

null_equals : truth message (equals (field 6) (codes "\"\"")) ≡ true
unfolding message
null_equals = refl

null_is_not_empty : truth message (equals (field 6) []) ≡ false
unfolding message
null_is_not_empty = refl

escaped_equals : truth message (equals (field 7) (codes "O&M")) ≡ true
unfolding message
escaped_equals = refl

escaped_is_not_raw : truth message (equals (field 7) (codes "O\\T\\M")) ≡ false
unfolding message
escaped_is_not_raw = refl

delimiters_equal : truth message (equals (place (codes "MSH") 2 Whole) (codes "^~\\&")) ≡ true
unfolding message
delimiters_equal = refl

one_of_them : truth message (one_of (component 5 1) (codes "ROE" ∷ codes "DOE" ∷ [])) ≡ true
unfolding message
one_of_them = refl

none_of_them : truth message (one_of (component 5 1) (codes "ROE" ∷ codes "DO" ∷ [])) ≡ false
unfolding message
none_of_them = refl

one_of_none : truth message (one_of (field 9) []) ≡ false
unfolding message
one_of_none = refl

absent_one_of : truth message (one_of (field 9) (codes "I" ∷ [] ∷ [])) ≡ true
unfolding message
absent_one_of = refl

begins : truth message (starts (field 3) (codes "77")) ≡ true
unfolding message
begins = refl

begins_later : truth message (starts (field 3) (codes "7^")) ≡ false
unfolding message
begins_later = refl

absent_begins : truth message (starts (field 9) (codes "7")) ≡ false
unfolding message
absent_begins = refl

absent_begins_empty : truth message (starts (field 9) []) ≡ true
unfolding message
absent_begins_empty = refl

escaped_begins : truth message (starts (field 7) (codes "O&")) ≡ true
unfolding message
escaped_begins = refl

contains_empty : truth message (contains (component 5 1) []) ≡ true
unfolding message
contains_empty = refl

absent_contains_empty : truth message (contains (field 9) []) ≡ true
unfolding message
absent_contains_empty = refl

contains_inside : truth message (contains (field 5) (codes "OE^")) ≡ true
unfolding message
contains_inside = refl

contains_more : truth message (contains (component 5 1) (codes "DOES")) ≡ false
unfolding message
contains_more = refl

escaped_contains : truth message (contains (field 7) (codes "&")) ≡ true
unfolding message
escaped_contains = refl

all_of_none : truth message (all no_conditions) ≡ true
all_of_none = refl

any_of_none : truth message (any no_conditions) ≡ false
any_of_none = refl

abbrev two : Conditions
two = condition (exists (field 3)) (condition (exists (field 2)) no_conditions)

all_of_two : truth message (all two) ≡ false
unfolding message
all_of_two = refl

any_of_two : truth message (any two) ≡ true
unfolding message
any_of_two = refl

not_all : truth message (negated (all two)) ≡ true
unfolding message
not_all = refl

one_level : nesting (exists (field 3)) ≡ 1
one_level = refl

three_levels : nesting (negated (all two)) ≡ 3
three_levels = refl

one_level_of_none : nesting (any no_conditions) ≡ 1
one_level_of_none = refl

two_compare_unescaped : compares_unescaped message (all two) ≡ true
two_compare_unescaped = refl

escaped_compares : compares_unescaped message (starts (field 7) (codes "O")) ≡ false
unfolding message
escaped_compares = refl
