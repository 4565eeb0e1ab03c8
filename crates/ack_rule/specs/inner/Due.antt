-- What proofs use beside the page Due.
use Rattle.std.specs.Prelude.{Bool, true, false, List, [], ◌∷◌, ◌++◌, if◌then◌else◌}
use Rattle.hl7_head.specs.declared.ack.AckCode.{AckCode}
use Rattle.hl7_head.specs.declared.ack.AckCode.TheVariants.{AA, CA}
use Rattle.ack_rule.specs.declared.mode.AckType.{AckType}
use Rattle.ack_rule.specs.declared.mode.AckType.TheVariants.{AL, NE, ER, SU}
use Rattle.ack_rule.specs.Due.{RefusalKind, untold, A, C}

-- an acknowledgment of this type is sent on success
abbrev pub tells_success : AckType → Bool
tells_success AL = true
tells_success NE = false
tells_success ER = false
tells_success SU = true

-- an acknowledgment of this type is sent on a refusal
abbrev pub tells_refusal : AckType → Bool
tells_refusal AL = true
tells_refusal NE = false
tells_refusal ER = true
tells_refusal SU = false

-- success is reported by each of the two acknowledgments that is requested on success
abbrev pub success_codes : AckType → AckType → List AckCode
success_codes accept application =
    (if tells_success accept then CA ∷ [] else []) ++ (if tells_success application then AA ∷ [] else [])

-- a refusal is reported once, by the accept acknowledgment where that is requested on a refusal
abbrev pub refusal_told : AckType → AckType → RefusalKind
refusal_told accept application =
    if tells_refusal accept then C else (if tells_refusal application then A else untold)
