-- Which acknowledgments a message is due: HL7 v2.5.1, 2.9.2 and 2.9.3, with table 0155 for MSH-15 and MSH-16.
use Rattle.std.specs.Prelude.{ℕ, Bool, true, false, ◌&&◌, ◌||◌, List, [], ◌∷◌, map, Option, None, Some, if◌then◌else◌, codes}
use Rattle.std.specs.Str.{bytes_eq}
use Rattle.er7_tree.specs.Pieces.{is_vacant}
use Rattle.hl7_head.specs.declared.ack.AckCode.{AckCode}
use Rattle.hl7_head.specs.declared.ack.AckCode.TheVariants.{AA, AE, AR, CA, CE, CR}
use Rattle.hl7_head.specs.declared.ack.AckPart.{AckPart}
use Rattle.hl7_head.specs.declared.ack.Cause.{Cause}
use Rattle.hl7_head.specs.declared.ack.Cause.TheVariants.{UnsupportedType, UnsupportedProcessing, UnsupportedVersion}
use Rattle.ack_rule.specs.declared.mode.AckType.{AckType}
use Rattle.ack_rule.specs.declared.mode.AckType.TheVariants.{AL, NE, ER, SU}
use Rattle.ack_rule.specs.declared.mode.AckMode.{AckMode}
use Rattle.ack_rule.specs.declared.mode.AckMode.TheVariants.{Original, Enhanced}
use Rattle.ack_rule.specs.declared.verdictum.Verdictum.{Verdictum}
use Rattle.ack_rule.specs.declared.verdictum.Verdictum.TheVariants.{Success, Reject, Error}

-- a value of MSH-15 or MSH-16: one outside the table means always, and one that isn't there, beside one that is,
-- means never
abbrev pub ack_type : List ℕ → AckType
ack_type raw =
    if is_vacant raw || bytes_eq raw (codes "NE") then NE
    else (if bytes_eq raw (codes "ER") then ER
    else (if bytes_eq raw (codes "SU") then SU else AL))

-- the mode that MSH-15 and MSH-16 request: original mode where neither has a value
abbrev pub ack_mode : List ℕ → List ℕ → AckMode
ack_mode accept application =
    if is_vacant accept && is_vacant application then Original
    else Enhanced (ack_type accept) (ack_type application)

-- By which codes a refusal is acknowledged: C, the commit codes CR and CE; A, the application codes AR and AE; or not
-- at all.
pub data RefusalKind : Type 0 where
  C : RefusalKind
  A : RefusalKind
  untold : RefusalKind

-- What is acknowledged in enhanced mode. MSH-15, MSH-16: the codes on success, and those on a refusal.
abbrev pub table : AckType → AckType → List AckCode × RefusalKind
table AL AL = (CA ∷ AA ∷ [], C)
table AL NE = (CA ∷ [], C)
table AL ER = (CA ∷ [], C)
table AL SU = (CA ∷ AA ∷ [], C)
table NE AL = (AA ∷ [], A)
table NE NE = ([], untold)
table NE ER = ([], A)
table NE SU = (AA ∷ [], untold)
table ER AL = (AA ∷ [], C)
table ER NE = ([], C)
table ER ER = ([], C)
table ER SU = (AA ∷ [], C)
table SU AL = (CA ∷ AA ∷ [], A)
table SU NE = (CA ∷ [], untold)
table SU ER = (CA ∷ [], A)
table SU SU = (CA ∷ AA ∷ [], untold)

-- the code of a refusal: the commit code, the application code or none
abbrev pub refusal_codes : AckCode → AckCode → RefusalKind → List AckCode
refusal_codes commit application C = commit ∷ []
refusal_codes commit application A = application ∷ []
refusal_codes commit application untold = []

-- an acknowledgment of enhanced or of original mode for each code
abbrev pub parts_of : Bool → Option Cause → List AckCode → List AckPart
parts_of enhanced cause told = map (λ code. record { code = code; cause = cause; enhanced = enhanced }) told

-- the acknowledgments that a message is due, in the order in which they are sent
abbrev pub due : AckMode → Verdictum → List AckPart
due Original Success = parts_of false None (AA ∷ [])
due Original (Reject cause) = parts_of false (Some cause) (AR ∷ [])
due Original (Error cause) = parts_of false (Some cause) (AE ∷ [])
due (Enhanced accept application) Success = parts_of true None (table accept application).0
due (Enhanced accept application) (Reject cause) = parts_of true (Some cause) (refusal_codes CR AR (table accept application).1)
due (Enhanced accept application) (Error cause) = parts_of true (Some cause) (refusal_codes CE AE (table accept application).1)

-- a message is rejected for its type, its processing id or its version, and in error for any other cause
abbrev pub verdictum_of : Cause → Verdictum
verdictum_of UnsupportedType = Reject UnsupportedType
verdictum_of UnsupportedProcessing = Reject UnsupportedProcessing
verdictum_of UnsupportedVersion = Reject UnsupportedVersion
verdictum_of cause = Error cause
