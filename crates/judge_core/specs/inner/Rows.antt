-- Worked verdicts under the built-in plan.
use Rattle.std.specs.Prelude.{◌≡◌, refl, ℕ, List, [], ◌∷◌, ◌++◌, codes, replicate}
use Rattle.std.specs.List.{flat_map}
use Rattle.hl7_head.specs.declared.ack.Cause.TheVariants.{UnsupportedType, UnsupportedProcessing, UnsupportedVersion, MissingControlId, BadControlId}
use Rattle.plan_text.specs.inner.BuiltIn.{built_in}
use Rattle.judge_core.specs.declared.judged.Verdict.TheVariants.{Unreadable, Stray, Refuse, Accept}
use Rattle.judge_core.specs.Judging.{verdict, header_fault, key_of, named}

-- segments, each ended by a carriage return
abbrev pub text_of : List (List ℕ) → List ℕ
text_of segments = flat_map (λ segment. segment ++ 13 ∷ []) segments

-- an admission with this type, control id, processing id and version
abbrev pub admission : List ℕ → List ℕ → List ℕ → List ℕ → List ℕ
admission type id processing version =
    text_of ((codes "MSH|^~\\&|REG|HOSP|ENG|HUB|20231114221300||" ++ type ++ codes "|" ++ id
    ++ codes "|" ++ processing ++ codes "|" ++ version ++ codes "|||AL|NE")
    ∷ codes "PID|1||77^^^H" ∷ [])

abbrev pub first : List ℕ
first = admission (codes "ADT^A01^ADT_A01") (codes "M1") (codes "P") (codes "2.5.1")

-- it goes to the one destination, as it was received
pub accepted : verdict built_in 0 first ≡ Accept (record { destination = 0; payload = first } ∷ [])
unfolding verdict header_fault
accepted = refl

pub names-one : named built_in 0 first ≡ 0 ∷ []
unfolding verdict header_fault
names-one = refl

pub key : key_of 0 first ≡ 0 ∷ codes "REG" ++ 13 ∷ codes "HOSP" ++ 13 ∷ codes "M1"
unfolding key_of
key = refl

pub order : verdict built_in 0 (admission (codes "ORM^O01") (codes "M1") (codes "P") (codes "2.5.1")) ≡ Refuse UnsupportedType
unfolding verdict header_fault
order = refl

pub debugging : verdict built_in 0 (admission (codes "ADT^A01") (codes "M1") (codes "D") (codes "2.5.1")) ≡ Refuse UnsupportedProcessing
unfolding verdict header_fault
debugging = refl

pub later_version : verdict built_in 0 (admission (codes "ADT^A01") (codes "M1") (codes "P") (codes "2.9")) ≡ Refuse UnsupportedVersion
unfolding verdict header_fault
later_version = refl

pub no_control_id : verdict built_in 0 (admission (codes "ADT^A01") [] (codes "P") (codes "2.5.1")) ≡ Refuse MissingControlId
unfolding verdict header_fault
no_control_id = refl

pub null_control_id : verdict built_in 0 (admission (codes "ADT^A01") (codes "\"\"") (codes "P") (codes "2.5.1")) ≡ Refuse MissingControlId
unfolding verdict header_fault
null_control_id = refl

pub long_control_id : verdict built_in 0 (admission (codes "ADT^A01") (replicate 200 65) (codes "P") (codes "2.5.1")) ≡ Refuse BadControlId
unfolding verdict header_fault
long_control_id = refl

pub acknowledgment : verdict built_in 0 (text_of (codes "MSH|^~\\&|A|B|C|D|||ACK|9|P|2.5.1" ∷ codes "MSA|AA|1" ∷ [])) ≡ Stray
unfolding verdict header_fault
acknowledgment = refl

pub greeting : verdict built_in 0 (codes "HELLO") ≡ Unreadable
unfolding verdict header_fault
greeting = refl
