-- Worked texts.
use Rattle.std.proofs.Common.{◌≡◌, ℕ, List, [], ◌∷◌, ◌++◌, Some, None, Ok, Err, refl, codes}
use Rattle.er7_tree.specs.declared.refusal.Refusal.TheVariants.{NoHeader, BadDelimiters, BadSegmentName, NoSuchSegment}
use Rattle.er7_tree.specs.declared.path.Part.TheVariants.{Whole, Repetition, Component, Subcomponent}
use Rattle.er7_tree.specs.declared.path.Part.{Part}
use Rattle.er7_tree.specs.Tree.{Tree, tree, text_of, ◌>>=◌}
use Rattle.er7_tree.specs.Path.{Place, path_of, raw}
use Rattle.er7_tree.specs.Escape.{escape, plain}
use Rattle.er7_tree.specs.Edit.{set}
use Rattle.er7_tree.specs.Delims.{Delims}

abbrev usual : Delims
usual = record { field = 124; component = 94; repetition = 126; escape = 92; subcomponent = 38 }

abbrev other : Delims
other = record { field = 35; component = 42; repetition = 37; escape = 33; subcomponent = 64 }

row_escape : escape usual (codes "a|b\\c" ++ 13 ∷ []) ≡ codes "a\\F\\b\\E\\c\\X0D\\"
row_escape = refl

row_plain : plain usual (codes "\\X0d0A\\") ≡ 13 ∷ 10 ∷ []
row_plain = refl

row_kept : plain usual (codes "\\H\\x\\N\\") ≡ codes "\\H\\x\\N\\"
row_kept = refl

row_kept_2 : plain usual (codes "\\X0\\") ≡ codes "\\X0\\"
row_kept_2 = refl

row_kept_3 : plain usual (codes "\\X\\") ≡ codes "\\X\\"
row_kept_3 = refl

row_kept_4 : plain usual (codes "a\\Fb") ≡ codes "a\\Fb"
row_kept_4 = refl

no_text : tree [] ≡ Err NoHeader
no_text = refl

no_delims : tree (codes "MSH") ≡ Err BadDelimiters
no_delims = refl

three_delims : tree (codes "MSH|^~\\") ≡ Err BadDelimiters
three_delims = refl

twice : tree (codes "MSH|^~\\^|") ≡ Err BadDelimiters
twice = refl

twice_5 : tree (codes "MSH|^~\\&&|") ≡ Err BadDelimiters
twice_5 = refl

bad_name_place : tree (codes "MSH|^~\\&|A" ++ 13 ∷ codes "PIDX|") ≡ Err (BadSegmentName 2)
bad_name_place = refl

line_feeds : (tree (codes "MSH|^~\\&|A" ++ 13 ∷ 10 ∷ codes "PID|1" ++ 13 ∷ 13 ∷ []) >>= λ t. Ok (text_of t)) ≡ Ok (codes "MSH|^~\\&|A" ++ 13 ∷ codes "PID|1" ++ 13 ∷ [])
line_feeds = refl

abbrev place : List ℕ → ℕ → ℕ → Part → Place
place segment occurrence field part = record { segment = segment; occurrence = occurrence; field = field; part = part }

path_whole : path_of (codes "PID-5") ≡ Some (place (codes "PID") 1 5 Whole)
path_whole = refl

path_repetition : path_of (codes "OBX[12]-5[2]") ≡ Some (place (codes "OBX") 12 5 (Repetition 2))
path_repetition = refl

path_component : path_of (codes "PID-5[2].1") ≡ Some (place (codes "PID") 1 5 (Component 2 1))
path_component = refl

path_first_repetition : path_of (codes "PID-5.1") ≡ path_of (codes "PID[1]-5[1].1")
path_first_repetition = refl

path_subcomponent : path_of (codes "PID-8.2.999") ≡ Some (place (codes "PID") 1 8 (Subcomponent 1 2 999))
path_subcomponent = refl

path_header : path_of (codes "MSH[1]-9.1") ≡ Some (place (codes "MSH") 1 9 (Component 1 1))
path_header = refl

path_separator : path_of (codes "MSH-1") ≡ Some (place (codes "MSH") 1 1 Whole)
path_separator = refl

path_zero : path_of (codes "PID-0") ≡ None
path_zero = refl

path_leading_zero : path_of (codes "PID-03") ≡ None
path_leading_zero = refl

path_no_component : path_of (codes "PID-3..1") ≡ None
path_no_component = refl

path_second_header : path_of (codes "MSH[2]-3") ≡ None
path_second_header = refl

path_part_of_delimiters : path_of (codes "MSH-2.1") ≡ None
path_part_of_delimiters = refl

path_repetition_of_separator : path_of (codes "MSH-1[1]") ≡ None
path_repetition_of_separator = refl

path_large : path_of (codes "PID-1000") ≡ None
path_large = refl

path_no_field : path_of (codes "PID") ≡ None
path_no_field = refl

path_two_hyphens : path_of (codes "PID-3-1") ≡ None
path_two_hyphens = refl

path_open_bracket : path_of (codes "PID-3[2") ≡ None
path_open_bracket = refl

path_after_bracket : path_of (codes "PID-3[2]x") ≡ None
path_after_bracket = refl

path_sign : path_of (codes "PID-+3") ≡ None
path_sign = refl

path_four_levels : path_of (codes "PID-3.1.1.1") ≡ None
path_four_levels = refl

path_small_letters : path_of (codes "pid-3") ≡ None
path_small_letters = refl

path_digit_first : path_of (codes "1ID-3") ≡ None
path_digit_first = refl

path_empty : path_of [] ≡ None
path_empty = refl

declared : Tree
declared = record { delims = other; segments = codes "MSH#*%!@#REG#HOSP#ENG#HUB#20231114221300##ADT*A01*ADT_A01#M!F!7#P#2.5.1###AL#NE" ∷ codes "PID#1##A!S!B" ∷ [] }

declared_tree : tree (codes "MSH#*%!@#REG#HOSP#ENG#HUB#20231114221300##ADT*A01*ADT_A01#M!F!7#P#2.5.1###AL#NE" ++ 13 ∷ codes "PID#1##A!S!B" ++ 13 ∷ []) ≡ Ok declared
unfolding declared
declared_tree = refl

declared_id : plain other (raw declared (record { segment = codes "MSH"; occurrence = 1; field = 10; part = Whole })) ≡ codes "M#7"
unfolding declared
declared_id = refl

declared_pid : raw declared (record { segment = codes "PID"; occurrence = 1; field = 3; part = Whole }) ≡ codes "A!S!B"
unfolding declared
declared_pid = refl

abbrev person : List ℕ → Tree
person pid = record { delims = usual; segments = codes "MSH|^~\\&" ∷ pid ∷ [] }

set_1 : set (person (codes "PID|1||77||DOE^J")) (record { segment = codes "PID"; occurrence = 1; field = 5; part = Component 2 1 }) (codes "O&M") ≡ Ok (person (codes "PID|1||77||DOE^J~O\\T\\M"))
set_1 = refl

set_2 : set (person (codes "PID|1")) (record { segment = codes "PID"; occurrence = 1; field = 8; part = Subcomponent 1 2 2 }) (codes "x") ≡ Ok (person (codes "PID|1|||||||^&x"))
set_2 = refl

set_3 : set (person (codes "PID|1")) (record { segment = codes "PV1"; occurrence = 1; field = 2; part = Whole }) (codes "I") ≡ Err NoSuchSegment
set_3 = refl
