-- Worked modes and acknowledgments.
use Rattle.std.proofs.Common.{◌≡◌, Bool, true, false, [], ◌∷◌, Option, Some, None, refl, codes}
use Rattle.hl7_head.specs.declared.ack.AckCode.{AckCode}
use Rattle.hl7_head.specs.declared.ack.AckCode.TheVariants.{AA, AE, AR, CA, CE, CR}
use Rattle.hl7_head.specs.declared.ack.AckPart.{AckPart}
use Rattle.hl7_head.specs.declared.ack.Cause.{Cause}
use Rattle.hl7_head.specs.declared.ack.Cause.TheVariants.{UnsupportedVersion, RouteTransform, IdReused}
use Rattle.ack_rule.specs.declared.mode.AckType.TheVariants.{AL, NE, ER, SU}
use Rattle.ack_rule.specs.declared.mode.AckMode.TheVariants.{Original, Enhanced}
use Rattle.ack_rule.specs.declared.verdictum.Verdictum.TheVariants.{Success, Error}
use Rattle.ack_rule.specs.Due.{ack_mode, due, verdictum_of}

neither : ack_mode [] [] ≡ Original
neither = refl

both_null : ack_mode (codes "\"\"") (codes "\"\"") ≡ Original
both_null = refl

accept_alone : ack_mode (codes "AL") [] ≡ Enhanced AL NE
accept_alone = refl

application_alone : ack_mode (codes "\"\"") (codes "ER") ≡ Enhanced NE ER
application_alone = refl

outside_the_table : ack_mode (codes "XX") (codes "SU") ≡ Enhanced AL SU
outside_the_table = refl

abbrev told : AckCode → Option Cause → Bool → AckPart
told code cause enhanced = record { code = code; cause = cause; enhanced = enhanced }

both_accept : due (Enhanced AL AL) Success ≡ told CA None true ∷ told AA None true ∷ []
both_accept = refl

never_told : due (Enhanced NE NE) (Error IdReused) ≡ []
never_told = refl

success_to_the_application : due (Enhanced ER SU) Success ≡ told AA None true ∷ []
success_to_the_application = refl

other_version : due (Enhanced ER SU) (verdictum_of UnsupportedVersion) ≡ told CR (Some UnsupportedVersion) true ∷ []
other_version = refl

refusal_told_once : due (Enhanced AL AL) (verdictum_of RouteTransform) ≡ told CE (Some RouteTransform) true ∷ []
refusal_told_once = refl

refusal_to_the_application : due (Enhanced SU ER) (verdictum_of UnsupportedVersion) ≡ told AR (Some UnsupportedVersion) true ∷ []
refusal_to_the_application = refl

original_error : due Original (verdictum_of IdReused) ≡ told AE (Some IdReused) false ∷ []
original_error = refl
