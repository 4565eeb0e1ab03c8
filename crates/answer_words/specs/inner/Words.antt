-- What a destination says in its answer to a message.
use Rattle.std.specs.Prelude.{ℕ, ◌+◌, ◌-◌, ◌/◌, ◌%◌, Bool, false, not, ◌&&◌, ◌==◌, nat_le, nat_lt, if◌then◌else◌, List, [], ◌∷◌, ◌++◌, length, find, take, Option, None, Some, Result, Ok, Err, option_map, codes}
use Rattle.std.specs.List.{flat_map}
use Rattle.std.specs.Option.{option_map_or, option_to_list}
use Rattle.std.specs.Str.{bytes_eq}
use Rattle.er7_tree.specs.Path.{path_of, value}
use Rattle.er7_tree.specs.Pieces.{is_empty, is_vacant}
use Rattle.er7_tree.specs.Tree.{Tree, tree}
use Rattle.hl7_head.specs.Msa.{msa}
use Rattle.mllp_frame.specs.Event.{FramingEvent, block, broken}
use Rattle.mllp_frame.specs.Framing.{blocks}

-- what the piece of a message at a path says, empty where there is none
abbrev pub text_at : Tree → List ℕ → List ℕ
text_at t path = option_map_or (value t) (path_of path) []

-- what is said, with a semicolon and a space behind it
abbrev pub behind : List ℕ → List ℕ
behind said = if is_empty said then [] else said ++ codes "; "

-- what is said, and then a path and the text there; an empty text and the null value say nothing
abbrev pub with_text : List ℕ → List ℕ → List ℕ → List ℕ
with_text said path text = if is_vacant text then said else behind said ++ path ++ codes " " ++ text

-- what is said, and then the piece of a message at a path
abbrev pub with_part : Tree → List ℕ → List ℕ → List ℕ
with_part t said path = with_text said path (text_at t path)

-- what is said, and then the pieces at these paths
abbrev pub with_parts : Tree → List ℕ → List (List ℕ) → List ℕ
with_parts t said [] = said
with_parts t said (path ∷ paths) = with_parts t (with_part t said path) paths

-- what an answer says: MSA-3 and MSA-6, and of the first ERR its code (ERR-1.4 to HL7 v2.4, ERR-3 since), its diagnosis and its text
abbrev pub said : Tree → List ℕ
said t = with_parts t [] (codes "MSA-3" ∷ codes "MSA-6" ∷ codes "ERR-1.4" ∷ codes "ERR-3" ∷ codes "ERR-7" ∷ codes "ERR-8" ∷ [])

-- a printing ASCII character or a space, but for the quotation mark and the backslash
abbrev pub is_plain : ℕ → Bool
is_plain b = nat_le 32 b && nat_lt b 127 && not (b == 34) && not (b == 92)

-- the hexadecimal digit of a number below 16
abbrev pub hex_digit : ℕ → ℕ
hex_digit n = if nat_lt n 10 then 48 + n else 65 + (n - 10)

-- a byte as it is shown: \xHH where it is not plain
abbrev pub shown_byte : ℕ → List ℕ
shown_byte b = if is_plain b then b ∷ [] else 92 ∷ 120 ∷ hex_digit (b / 16) ∷ hex_digit (b % 16) ∷ []

-- the first bytes as they are shown, as many as there is room for
abbrev pub shown_within : ℕ → List ℕ → List ℕ
shown_within room [] = []
shown_within room (b ∷ bs) =
    if nat_le (length (shown_byte b)) room then shown_byte b ++ shown_within (room - length (shown_byte b)) bs else []

-- the message that a text is, where it can be read
abbrev pub readable : {E : Type 0} → Result Tree E → Option Tree
readable (Ok t) = Some t
readable (Err _) = None

-- the message in a block
abbrev pub message_in : FramingEvent → Option Tree
message_in (block text) = readable (tree text)
message_in (broken cause) = None

-- the messages in blocks
abbrev pub messages_in : List FramingEvent → List Tree
messages_in events = flat_map (λ event. option_to_list (message_in event)) events

-- the message acknowledges the one with this control id: MSA-2 is that id
abbrev pub is_answer_to : List ℕ → Tree → Bool
is_answer_to control_id t = option_map_or (λ m. bytes_eq m.control_id control_id) (msa t) false

-- the words of the answer to the message with this control id, in what was received: what the first message that acknowledges it says, in the
-- first nine blocks
abbrev pub words_in : List ℕ → List ℕ → Option (List ℕ)
words_in control_id received =
    option_map (λ answer. shown_within 200 (said answer)) (find (is_answer_to control_id) (messages_in (take 9 (blocks received))))
