-- Worked texts, read and printed.
use Rattle.std.proofs.Common.{◌≡◌, ℕ, List, [], ◌∷◌, ◌++◌, Some, None, Ok, Err, refl, codes}
use Rattle.er7_tree.specs.declared.refusal.Refusal.TheVariants.{NoHeader, BadDelimiters, BadSegmentName}
use Rattle.er7_tree.specs.declared.path.Part.TheVariants.{Whole}
use Rattle.er7_tree.specs.Delims.{Delims, delims_of}
use Rattle.er7_tree.specs.Tree.{Tree, tree, segments_of, text_of, ◌>>=◌}
use Rattle.er7_tree.specs.Path.{Place, header_place, raw, value}

-- the carriage return and the line feed
abbrev cr : List ℕ
cr = 13 ∷ []

abbrev lf : List ℕ
lf = 10 ∷ []

abbrev recommended : Delims
recommended = record { field = 124; component = 94; repetition = 126; escape = 92; subcomponent = 38 }

recommended_characters : delims_of (codes "MSH|^~\\&|A") ≡ Some recommended
recommended_characters = refl

no_text : tree [] ≡ Err NoHeader
no_text = refl

carriage_returns_alone : tree (cr ++ cr ++ lf ++ cr) ≡ Err NoHeader
carriage_returns_alone = refl

other_first : tree (codes "PID|1" ++ cr) ≡ Err NoHeader
other_first = refl

line_feed_first : tree (lf ++ codes "MSH|^~\\&|A" ++ cr) ≡ Err NoHeader
line_feed_first = refl

no_delimiters : tree (codes "MSH") ≡ Err BadDelimiters
no_delimiters = refl

three_characters : tree (codes "MSH|^~\\") ≡ Err BadDelimiters
three_characters = refl

character_twice : tree (codes "MSH|^~\\^|") ≡ Err BadDelimiters
character_twice = refl

fifth_character_twice : tree (codes "MSH|^~\\&&|") ≡ Err BadDelimiters
fifth_character_twice = refl

six_characters : tree (codes "MSH|^~\\&#*|") ≡ Err BadDelimiters
six_characters = refl

letter_declared : tree (codes "MSHA^~\\&A") ≡ Err BadDelimiters
letter_declared = refl

fifth_character : delims_of (codes "MSH|^~\\&#|A") ≡ Some recommended
fifth_character = refl

behind_fifth_character : (tree (codes "MSH|^~\\&#|A") >>= λ t. Ok (raw t (header_place 3 None))) ≡ Ok (codes "A")
behind_fifth_character = refl

long_name : tree (codes "MSH|^~\\&|A" ++ cr ++ codes "PIDX|") ≡ Err (BadSegmentName 2)
long_name = refl

second_header : tree (codes "MSH|^~\\&|A" ++ cr ++ codes "PID|1" ++ cr ++ cr ++ lf ++ codes "MSH|^~\\&|B") ≡ Err (BadSegmentName 3)
second_header = refl

name_alone : (tree (codes "MSH|^~\\&|A" ++ cr ++ codes "ZZ1") >>= λ t. Ok t.segments) ≡ Ok (codes "MSH|^~\\&|A" ∷ codes "ZZ1" ∷ [])
name_alone = refl

line_feeds : segments_of (codes "MSH|^~\\&|A" ++ cr ++ lf ++ codes "PID|1" ++ cr ++ cr) ≡ codes "MSH|^~\\&|A" ∷ codes "PID|1" ∷ []
line_feeds = refl

one_line_feed : segments_of (codes "MSH|^~\\&|A" ++ cr ++ lf ++ lf ++ codes "PID|1") ≡ codes "MSH|^~\\&|A" ∷ (lf ++ codes "PID|1") ∷ []
one_line_feed = refl

printed : (tree (codes "MSH|^~\\&|A" ++ cr ++ lf ++ codes "PID|1" ++ cr ++ cr) >>= λ t. Ok (text_of t)) ≡ Ok (codes "MSH|^~\\&|A" ++ cr ++ codes "PID|1" ++ cr)
printed = refl

separator_field : (tree (codes "MSH|^~\\&|A") >>= λ t. Ok (raw t (header_place 1 None))) ≡ Ok (codes "|")
separator_field = refl

absent_field : (tree (codes "MSH|^~\\&|A") >>= λ t. Ok (raw t (header_place 10 None))) ≡ Ok []
absent_field = refl

abbrev declared : Delims
declared = record { field = 35; component = 42; repetition = 37; escape = 33; subcomponent = 64 }

abbrev declaring : Tree
declaring = record { delims = declared; segments = codes "MSH#*%!@#REG#HOSP#ENG#HUB#20231114221300##ADT*A01*ADT_A01#M!F!7#P#2.5.1###AL#NE" ∷ codes "PID#1##A!S!B" ∷ [] }

declared_read : tree (text_of declaring) ≡ Ok declaring
declared_read = refl

declared_control_id : value declaring (header_place 10 None) ≡ codes "M#7"
declared_control_id = refl

abbrev identifiers : Place
identifiers = record { segment = codes "PID"; occurrence = 1; field = 3; part = Whole }

declared_identifiers : value declaring identifiers ≡ codes "A*B"
declared_identifiers = refl

declared_identifiers_raw : raw declaring identifiers ≡ codes "A!S!B"
declared_identifiers_raw = refl
