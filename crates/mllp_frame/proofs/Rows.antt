-- Streams written out, with their events.
use Rattle.std.proofs.Common.{◌≡◌, ℕ, List, [], ◌∷◌, ◌++◌, codes, length, refl}
use Rattle.mllp_frame.specs.declared.Break.TheVariants.{NewStart, BadEnd}
use Rattle.mllp_frame.specs.Event.{block, broken}
use Rattle.mllp_frame.specs.Framing.{blocks, block_bytes}
use Rattle.mllp_frame.specs.inner.Framing.{open_end, least_too_long}

-- an admission that asks for an accept acknowledgment
abbrev admission : List ℕ
admission = codes "MSH|^~\\&|REG|HOSP|ENG|HUB|20231114221300||ADT^A01^ADT_A01|M1|P|2.5.1|||AL|NE" ++ 13 ∷ codes "PID|1||77^^^H" ++ 13 ∷ []

-- one that asks for both acknowledgments
abbrev second_admission : List ℕ
second_admission = codes "MSH|^~\\&|REG|HOSP|ENG|HUB|20231114221300||ADT^A01^ADT_A01|M3|P|2.5.1|||AL|AL" ++ 13 ∷ codes "PID|1||77^^^H" ++ 13 ∷ []

pub admission_has_91_bytes : length admission ≡ 91
admission_has_91_bytes = refl

pub a_block_on_the_wire : block_bytes (codes "MSA|AA|1" ++ 13 ∷ []) ≡ 11 ∷ codes "MSA|AA|1" ++ 13 ∷ 28 ∷ 13 ∷ []
a_block_on_the_wire = refl

pub bytes_around_blocks_are_skipped : blocks (codes "xyz" ++ block_bytes admission ++ codes "xyz" ++ block_bytes second_admission ++ codes "xyz") ≡ block admission ∷ block second_admission ∷ []
bytes_around_blocks_are_skipped = refl

-- Without its last byte a block gives nothing yet; the carriage return completes it.
pub a_block_without_its_last_byte_gives_nothing : blocks (11 ∷ admission ++ 28 ∷ []) ≡ []
a_block_without_its_last_byte_gives_nothing = refl

pub a_block_without_its_last_byte_is_the_open_end : open_end (codes "xyz" ++ 11 ∷ admission ++ 28 ∷ []) ≡ 11 ∷ admission ++ 28 ∷ []
unfolding least_too_long
a_block_without_its_last_byte_is_the_open_end = refl

pub its_last_byte_completes_it : blocks (open_end (codes "xyz" ++ 11 ∷ admission ++ 28 ∷ []) ++ 13 ∷ []) ≡ block admission ∷ []
unfolding least_too_long
its_last_byte_completes_it = refl

pub a_start_byte_in_the_data_breaks_the_block : blocks (11 ∷ codes "MSH|junk" ++ block_bytes admission) ≡ broken NewStart ∷ block admission ∷ []
a_start_byte_in_the_data_breaks_the_block = refl

pub another_byte_behind_the_end_byte_breaks_the_block : blocks (11 ∷ 97 ∷ 28 ∷ 98 ∷ block_bytes admission) ≡ broken BadEnd ∷ block admission ∷ []
another_byte_behind_the_end_byte_breaks_the_block = refl

pub a_start_byte_behind_the_end_byte_opens_the_next_block : blocks (11 ∷ 97 ∷ 28 ∷ block_bytes admission) ≡ broken BadEnd ∷ block admission ∷ []
a_start_byte_behind_the_end_byte_opens_the_next_block = refl

pub an_empty_block_is_a_block : blocks (block_bytes []) ≡ block [] ∷ []
an_empty_block_is_a_block = refl
