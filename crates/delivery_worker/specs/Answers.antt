-- What the answers of a destination mean.
use Rattle.std.specs.Prelude.{ℕ, Bool, ◌||◌, List, Option, None, if◌then◌else◌, codes, find, take}
use Rattle.std.specs.List.{flat_map}
use Rattle.std.specs.Option.{option_map_or, option_to_list}
use Rattle.std.specs.Str.{bytes_eq}
use Rattle.dest_queue.specs.declared.Outcome.{Outcome}
use Rattle.dest_queue.specs.declared.Outcome.TheVariants.{Delivered, Again, Rejected}
use Rattle.hl7_head.specs.Msa.{MsaFields}
use Rattle.hl7_head.specs.Laws.{msa_of}
use Rattle.mllp_frame.specs.Event.{FramingEvent, block, broken}

-- what an acknowledgment code of table 0008 means: accepted is delivered, rejected stays rejected, and on an error,
-- as on any other code, the message is sent again
abbrev pub code_outcome : List ℕ → Outcome
code_outcome code =
    if bytes_eq code (codes "AA") || bytes_eq code (codes "CA") then Delivered
    else (if bytes_eq code (codes "AR") || bytes_eq code (codes "CR") then Rejected else Again)

-- the acknowledgment is one of the message with this control id
abbrev pub answers_to : List ℕ → MsaFields → Bool
answers_to control_id msa = bytes_eq msa.control_id control_id

-- the acknowledgments among the first nine answers, which are read; the others can't be read or hold none
abbrev pub acknowledgments : List (Option MsaFields) → List MsaFields
acknowledgments answers = flat_map option_to_list (take 9 answers)

-- the first acknowledgment of the message decides; without one the message is sent again
abbrev pub outcome_of : List ℕ → List (Option MsaFields) → Outcome
outcome_of control_id answers = option_map_or (λ msa. code_outcome msa.code) (find (answers_to control_id) (acknowledgments answers)) Again

-- the answer that an event of the stream brings: that of a block's text, none where the block is broken
abbrev pub answer_in : FramingEvent → Option MsaFields
answer_in (block text) = msa_of text
answer_in (broken cause) = None
