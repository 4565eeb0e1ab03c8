-- CA and AA are due of successes alone.
use Rattle.std.proofs.Common.{inl, inr, Bool, true, false, [], ◌∷◌, Option, Some, All}
use Rattle.std.proofs.lemmas.List.Elements.{All-cons, All-nil}
use Rattle.hl7_head.specs.declared.ack.AckCode.{AckCode}
use Rattle.hl7_head.specs.declared.ack.AckCode.TheVariants.{AE, AR, CE, CR}
use Rattle.hl7_head.specs.declared.ack.AckPart.{AckPart}
use Rattle.hl7_head.specs.declared.ack.Cause.{Cause}
use Rattle.ack_rule.specs.declared.mode.AckMode.{AckMode}
use Rattle.ack_rule.specs.declared.mode.AckMode.TheVariants.{Original, Enhanced}
use Rattle.ack_rule.specs.declared.verdictum.Verdictum.TheVariants.{Reject, Error}
use Rattle.ack_rule.specs.Due.{RefusalKind, due, parts_of, refusal_codes, table}
use Rattle.ack_rule.specs.Due.RefusalKind.{C, A, untold}
use Rattle.promise.specs.Promise.{IsPositive}

-- a part whose code reports no success
abbrev IsNegative : AckPart → Type 0
IsNegative part = IsPositive part.code → ⊥

none-of : (code : AckCode) (enhanced : Bool) (cause : Option Cause) → (IsPositive code → ⊥) → All IsNegative (parts_of enhanced cause (code ∷ []))
none-of code enhanced cause is_none = All-cons IsNegative (record { code = code; cause = cause; enhanced = enhanced }) [] is_none (All-nil IsNegative)

no-ar : IsPositive AR → ⊥
no-ar (inl is) = cc
no-ar (inr is) = cc

no-ae : IsPositive AE → ⊥
no-ae (inl is) = cc
no-ae (inr is) = cc

no-cr : IsPositive CR → ⊥
no-cr (inl is) = cc
no-cr (inr is) = cc

no-ce : IsPositive CE → ⊥
no-ce (inl is) = cc
no-ce (inr is) = cc

refused : (commit application : AckCode) (kind : RefusalKind) (cause : Option Cause) → (IsPositive commit → ⊥) → (IsPositive application → ⊥)
    → All IsNegative (parts_of true cause (refusal_codes commit application kind))
refused commit application C cause one other = none-of commit true cause one
refused commit application A cause one other = none-of application true cause other
refused commit application untold cause one other = All-nil IsNegative

pub rejected : (mode : AckMode) (cause : Cause) → All IsNegative (due mode (Reject cause))
rejected Original cause = none-of AR false (Some cause) no-ar
rejected (Enhanced accept application) cause = refused CR AR (table accept application).1 (Some cause) no-cr no-ar

pub in-error : (mode : AckMode) (cause : Cause) → All IsNegative (due mode (Error cause))
in-error Original cause = none-of AE false (Some cause) no-ae
in-error (Enhanced accept application) cause = refused CE AE (table accept application).1 (Some cause) no-ce no-ae
