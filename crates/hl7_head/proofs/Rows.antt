-- Worked texts: stamps, headers and acknowledgments.
use Rattle.std.proofs.Common.{◌≡◌, ℕ, Bool, List, [], ◌∷◌, ◌++◌, Option, Some, None, Result, Ok, refl, codes, true, false}
use Rattle.std.specs.Fmt.{digits}
use Rattle.std.specs.Option.{option_map}
use Rattle.er7_tree.specs.declared.refusal.Refusal.{Refusal}
use Rattle.er7_tree.specs.Tree.{tree, ◌>>=◌}
use Rattle.hl7_head.specs.declared.ack.AckCode.{AckCode}
use Rattle.hl7_head.specs.declared.ack.AckCode.TheVariants.{AA, CA, CE, CR}
use Rattle.hl7_head.specs.declared.ack.AckPart.{AckPart}
use Rattle.hl7_head.specs.declared.ack.Cause.{Cause}
use Rattle.hl7_head.specs.declared.ack.Cause.TheVariants.{MissingControlId, UnsupportedVersion}
use Rattle.hl7_head.specs.Ack.{ack}
use Rattle.hl7_head.specs.Calendar.{date_from, date_in_year}
use Rattle.hl7_head.specs.Header.{header_of}
use Rattle.hl7_head.specs.Msa.{MsaFields, msa}
use Rattle.hl7_head.specs.Stamp.{stamp}

first_moment : stamp 0 ≡ codes "19700101000000+0000"
unfolding date_from date_in_year
first_moment = refl

leap_day : stamp 951782400 ≡ codes "20000229000000+0000"
unfolding date_from date_in_year
leap_day = refl

last_moment : stamp 253370764799 ≡ codes "99981231235959+0000"
unfolding date_from date_in_year
last_moment = refl

-- the acknowledgment of a text on connection 0
abbrev answered : List ℕ → AckPart → ℕ → Option (List ℕ)
answered text part number = option_map (λ h. ack h part 1700000000 0 number) (header_of text)

abbrev success : AckCode → Bool → AckPart
success code enhanced = record { code = code; cause = None; enhanced = enhanced }

abbrev refusal : AckCode → Cause → Bool → AckPart
refusal code cause enhanced = record { code = code; cause = Some cause; enhanced = enhanced }

-- what follows the header of these messages
abbrev patient : List ℕ
patient = 13 ∷ codes "PID|1||77^^^H" ++ 13 ∷ []

commit_accept : answered (codes "MSH|^~\\&|REG|HOSP|ENG|HUB|20231114221300||ADT^A01^ADT_A01|M1|P|2.5.1|||AL|NE" ++ patient) (success CA true) 1
    ≡ Some (codes "MSH|^~\\&|ENG|HUB|REG|HOSP|20231114221320+0000||ACK^A01^ACK|0.1|P|2.5.1|||NE|NE" ++ 13 ∷ codes "MSA|CA|M1" ++ 13 ∷ [])
unfolding date_from date_in_year digits
commit_accept = refl

original_mode : answered (codes "MSH|^~\\&|REG|HOSP|ENG|HUB|20231114221300||ADT^A01^ADT_A01|M2|P|2.5.1" ++ patient) (success AA false) 1
    ≡ Some (codes "MSH|^~\\&|ENG|HUB|REG|HOSP|20231114221320+0000||ACK^A01^ACK|0.1|P|2.5.1" ++ 13 ∷ codes "MSA|AA|M2" ++ 13 ∷ [])
unfolding date_from date_in_year digits
original_mode = refl

second_acknowledgment : answered (codes "MSH|^~\\&|REG|HOSP|ENG|HUB|20231114221300||ADT^A01^ADT_A01|M3|P|2.5.1|||AL|AL" ++ patient) (success AA true) 2
    ≡ Some (codes "MSH|^~\\&|ENG|HUB|REG|HOSP|20231114221320+0000||ACK^A01^ACK|0.2|P|2.5.1|||NE|NE" ++ 13 ∷ codes "MSA|AA|M3" ++ 13 ∷ [])
unfolding date_from date_in_year digits
second_acknowledgment = refl

other_version : answered (codes "MSH|^~\\&|REG|HOSP|ENG|HUB|20231114221300||ADT^A01^ADT_A01|M5B|P|2.9|||ER|SU" ++ patient) (refusal CR UnsupportedVersion true) 2
    ≡ Some (codes "MSH|^~\\&|ENG|HUB|REG|HOSP|20231114221320+0000||ACK^A01^ACK|0.2|P|2.9|||NE|NE" ++ 13 ∷ codes "MSA|CR|M5B|UnsupportedVersion" ++ 13 ∷ [])
unfolding date_from date_in_year digits
other_version = refl

null_modes : answered (codes "MSH|^~\\&|REG|HOSP|ENG|HUB|20231114221300||ADT^A01^ADT_A01|M6|P|2.5.1|||\"\"|\"\"" ++ patient) (success AA false) 1
    ≡ Some (codes "MSH|^~\\&|ENG|HUB|REG|HOSP|20231114221320+0000||ACK^A01^ACK|0.1|P|2.5.1" ++ 13 ∷ codes "MSA|AA|M6" ++ 13 ∷ [])
unfolding date_from date_in_year digits
null_modes = refl

no_control_id : answered (codes "MSH|^~\\&|REG|HOSP|ENG|HUB|20231114221300||ADT^A01^ADT_A01||P|2.5.1|||AL|NE" ++ patient) (refusal CE MissingControlId true) 1
    ≡ Some (codes "MSH|^~\\&|ENG|HUB|REG|HOSP|20231114221320+0000||ACK^A01^ACK|0.1|P|2.5.1|||NE|NE" ++ 13 ∷ codes "MSA|CE||MissingControlId" ++ 13 ∷ [])
unfolding date_from date_in_year digits
no_control_id = refl

other_delimiters : answered (codes "MSH#*%!@#REG#HOSP#ENG#HUB#20231114221300##ADT*A01*ADT_A01#M!F!7#P#2.5.1###AL#NE" ++ 13 ∷ codes "PID#1##A!S!B" ++ 13 ∷ []) (success CA true) 1
    ≡ Some (codes "MSH#*%!@#ENG#HUB#REG#HOSP#20231114221320+0000##ACK*A01*ACK#0.1#P#2.5.1###NE#NE" ++ 13 ∷ codes "MSA#CA#M!F!7" ++ 13 ∷ [])
unfolding date_from date_in_year digits
other_delimiters = refl

-- the fifth character of MSH-2 comes back, and without a trigger event MSH-9 is ACK alone
fifth_character : answered (codes "MSH|^~\\&#|A|B|C|D|||ADT|9|P|2.5.1") (success AA false) 12
    ≡ Some (codes "MSH|^~\\&#|C|D|A|B|20231114221320+0000||ACK|0.12|P|2.5.1" ++ 13 ∷ codes "MSA|AA|9" ++ 13 ∷ [])
unfolding date_from date_in_year digits
fifth_character = refl

-- a header that ends early has empty fields after its end
short_header : answered (codes "MSH|^~\\&") (success AA false) 1
    ≡ Some (codes "MSH|^~\\&|||||20231114221320+0000||ACK|0.1||" ++ 13 ∷ codes "MSA|AA|" ++ 13 ∷ [])
unfolding date_from date_in_year digits
short_header = refl

-- what can't be read has no header
unreadable : header_of (codes "HELLO") ≡ None
unreadable = refl

-- the fields of an acknowledgment that came
abbrev answer_of : List ℕ → Result (Option MsaFields) Refusal
answer_of text = tree text >>= λ t. Ok (msa t)

an_answer : answer_of (codes "MSH|^~\\&|A|B|C|D|||ACK|9|P|2.5.1" ++ 13 ∷ codes "MSA|AA|1" ++ 13 ∷ [])
    ≡ Ok (Some (record { code = codes "AA"; control_id = codes "1"; text = [] }))
an_answer = refl

an_empty_answer : answer_of (codes "MSH|^~\\&|A|B|C|D|||ACK|9|P|2.5.1" ++ 13 ∷ codes "MSA" ++ 13 ∷ []) ≡ Ok (Some (record { code = []; control_id = []; text = [] }))
an_empty_answer = refl

no_answer : answer_of (codes "MSH|^~\\&|REG|HOSP|ENG|HUB|20231114221300||ADT^A01^ADT_A01|M1|P|2.5.1|||AL|NE" ++ patient) ≡ Ok None
no_answer = refl
