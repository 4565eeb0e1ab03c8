-- What proofs use beside the page Ack.
use Rattle.std.specs.Prelude.{ℕ, Bool, List, [], ◌∷◌, ◌++◌, Option, codes}
use Rattle.std.specs.Option.{option_map, option_to_list}
use Rattle.hl7_head.specs.declared.ack.AckCode.{AckCode}
use Rattle.hl7_head.specs.declared.ack.Cause.{Cause}
use Rattle.hl7_head.specs.declared.ack.Cause.TheVariants.{UnsupportedType, UnsupportedProcessing, UnsupportedVersion, MissingControlId, BadControlId, SourceTransform, RouteTransform, IdReused, NoMemory, Full, PlanChanged}
use Rattle.hl7_head.specs.Ack.{cause_text, code_text, fields_text, reply_mode, reply_type}
use Rattle.hl7_head.specs.Header.{Msh}
use Rattle.hl7_head.specs.Stamp.{stamp}

-- the numbers of the causes
abbrev pub cause_code : Cause → ℕ
cause_code UnsupportedType = 1
cause_code UnsupportedProcessing = 2
cause_code UnsupportedVersion = 3
cause_code MissingControlId = 4
cause_code BadControlId = 5
cause_code SourceTransform = 6
cause_code RouteTransform = 7
cause_code IdReused = 8
cause_code NoMemory = 9
cause_code Full = 10
cause_code PlanChanged = 11

-- the name of MSH, and MSH-2 to MSH-6 of the acknowledgment
abbrev pub routing_text : Msh → List ℕ
routing_text h =
    codes "MSH"
    ++ fields_text h.delims.field (h.encoding_characters
    ∷ h.receiving_application ∷ h.receiving_facility ∷ h.sending_application ∷ h.sending_facility ∷ [])

-- MSH of the acknowledgment up to MSH-12, at a moment, with a control id
abbrev pub header_text : Msh → ℕ → List ℕ → List ℕ
header_text h moment id =
    codes "MSH"
    ++ fields_text h.delims.field (h.encoding_characters
    ∷ h.receiving_application ∷ h.receiving_facility ∷ h.sending_application ∷ h.sending_facility
    ∷ stamp moment ∷ [] ∷ reply_type h ∷ id ∷ h.processing_id ∷ h.version_id ∷ [])

-- what stands between MSH-12 and MSA-2; the byte 13 ends a segment
abbrev pub between_text : ℕ → Bool → AckCode → List ℕ
between_text separator enhanced code =
    fields_text separator (reply_mode enhanced) ++ 13 ∷ codes "MSA" ++ separator ∷ code_text code ++ separator ∷ []

-- MSA from MSA-2 on, without the separator before it
abbrev pub answer_text : Msh → Option Cause → List ℕ
answer_text h cause = h.control_id ++ fields_text h.delims.field (option_to_list (option_map cause_text cause)) ++ 13 ∷ []
