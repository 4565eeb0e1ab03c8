-- The text of an acknowledgment: the segments MSH and MSA.
use Rattle.std.specs.Prelude.{ℕ, Bool, true, false, List, [], ◌∷◌, ◌++◌, if◌then◌else◌, codes, decimal}
use Rattle.std.specs.List.{flat_map}
use Rattle.std.specs.Option.{option_map, option_to_list}
use Rattle.er7_tree.specs.Pieces.{is_vacant, join}
use Rattle.er7_tree.specs.Tree.{ended}
use Rattle.hl7_head.specs.declared.ack.AckCode.{AckCode}
use Rattle.hl7_head.specs.declared.ack.AckCode.TheVariants.{AA, AE, AR, CA, CE, CR}
use Rattle.hl7_head.specs.declared.ack.Cause.{Cause}
use Rattle.hl7_head.specs.declared.ack.Cause.TheVariants.{UnsupportedType, UnsupportedProcessing, UnsupportedVersion, MissingControlId, BadControlId, SourceTransform, RouteTransform, IdReused, NoMemory, Full, PlanChanged}
use Rattle.hl7_head.specs.declared.ack.AckPart.{AckPart}
use Rattle.hl7_head.specs.Header.{Msh}
use Rattle.hl7_head.specs.Stamp.{stamp}

-- the codes of table 0008
abbrev pub code_text : AckCode → List ℕ
code_text AA = codes "AA"
code_text AE = codes "AE"
code_text AR = codes "AR"
code_text CA = codes "CA"
code_text CE = codes "CE"
code_text CR = codes "CR"

-- the names of the causes
abbrev pub cause_text : Cause → List ℕ
cause_text UnsupportedType = codes "UnsupportedType"
cause_text UnsupportedProcessing = codes "UnsupportedProcessing"
cause_text UnsupportedVersion = codes "UnsupportedVersion"
cause_text MissingControlId = codes "MissingControlId"
cause_text BadControlId = codes "BadControlId"
cause_text SourceTransform = codes "SourceTransform"
cause_text RouteTransform = codes "RouteTransform"
cause_text IdReused = codes "IdReused"
cause_text NoMemory = codes "NoMemory"
cause_text Full = codes "Full"
cause_text PlanChanged = codes "PlanChanged"

-- fields, each after a separator
abbrev pub fields_text : ℕ → List (List ℕ) → List ℕ
fields_text separator fields = flat_map (λ field. separator ∷ field) fields

-- a segment as it is written: its name, each field after a separator, and the carriage return that ends it
abbrev pub segment_text : ℕ → List ℕ → List (List ℕ) → List ℕ
segment_text separator name fields = ended (name ++ fields_text separator fields)

-- MSH-9 of the acknowledgment: ACK, and the trigger event that is acknowledged, where there is one
abbrev pub reply_type : Msh → List ℕ
reply_type h =
    if is_vacant h.trigger_event then codes "ACK"
    else join h.delims.component (codes "ACK" ∷ h.trigger_event ∷ codes "ACK" ∷ [])

-- MSH-10 of the acknowledgment: the connection, and which acknowledgment of the connection this is
abbrev pub reply_id : ℕ → ℕ → List ℕ
reply_id connection number = decimal connection ++ codes "." ++ decimal number

-- MSH-13 to MSH-16 of the acknowledgment, which is itself never acknowledged; in original mode MSH ends before them
abbrev pub reply_mode : Bool → List (List ℕ)
reply_mode true = [] ∷ [] ∷ codes "NE" ∷ codes "NE" ∷ []
reply_mode false = []

-- the header of the acknowledgment, from MSH-2 on: sender and receiver are exchanged
abbrev pub reply_header : Msh → AckPart → ℕ → List ℕ → List (List ℕ)
reply_header h part moment id =
    h.encoding_characters
    ∷ h.receiving_application ∷ h.receiving_facility ∷ h.sending_application ∷ h.sending_facility
    ∷ stamp moment ∷ [] ∷ reply_type h ∷ id ∷ h.processing_id ∷ h.version_id
    ∷ reply_mode part.enhanced

-- the segment MSA from MSA-1 on: the code, the control id that is answered, and on a refusal its cause
abbrev pub reply_answer : Msh → AckPart → List (List ℕ)
reply_answer h part = code_text part.code ∷ h.control_id ∷ option_to_list (option_map cause_text part.cause)

-- the acknowledgment of a message with this header, at a moment, the given one of a connection
abbrev pub ack : Msh → AckPart → ℕ → ℕ → ℕ → List ℕ
ack h part moment connection number =
    segment_text h.delims.field (codes "MSH") (reply_header h part moment (reply_id connection number))
    ++ segment_text h.delims.field (codes "MSA") (reply_answer h part)
