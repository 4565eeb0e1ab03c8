-- What holds of each byte of a message, of each byte above the control bytes and of the carriage return holds of each byte of its acknowledgment.
use Rattle.std.proofs.Common.{◌≡◌, ℕ, ◌+◌, ◌/◌, ◌%◌, ◌<◌, ◌≤◌, ◌^◌, Bool, true, false, List, [], ◌∷◌, ◌++◌, Option, Some, None, refl, arith, nat_le, inl, inr, codes, decimal, All}
use Rattle.std.specs.List.{list_all}
use Rattle.std.specs.Option.{option_map, option_to_list}
use Rattle.std.proofs.lemmas.Bool.{and_parts, cases_Bool, leb-true}
use Rattle.std.proofs.lemmas.Fmt.{decimal_by_steps}
use Rattle.std.proofs.lemmas.List.Elements.{All-nil, All-cons, All-append}
use Rattle.er7_tree.specs.Pieces.{is_vacant}
use Rattle.hl7_head.specs.declared.ack.AckCode.{AckCode}
use Rattle.hl7_head.specs.declared.ack.AckCode.TheVariants.{AA, AE, AR, CA, CE, CR}
use Rattle.hl7_head.specs.declared.ack.AckPart.{AckPart}
use Rattle.hl7_head.specs.declared.ack.Cause.{Cause}
use Rattle.hl7_head.specs.declared.ack.Cause.TheVariants.{UnsupportedType, UnsupportedProcessing, UnsupportedVersion, MissingControlId, BadControlId, SourceTransform, RouteTransform, IdReused, NoMemory, Full, PlanChanged}
use Rattle.hl7_head.specs.Ack.{ack, cause_text, code_text, fields_text, reply_answer, reply_header, reply_id, reply_mode, reply_type, segment_text}
use Rattle.hl7_head.specs.Calendar.{CivilDate, civil_date}
use Rattle.hl7_head.specs.Header.{Msh}
use Rattle.hl7_head.specs.Stamp.{date_text, four_digits, stamp, time_text, two_digits}
use Rattle.hl7_head.proofs.Bytes.{HeaderAll}

module _ (P : ℕ → Type 0) (high : (b : ℕ) → 32 ≤ b → P b) (return : P 13) where
  -- a text that has no control byte, by computing
  printed : (text : List ℕ) → list_all (nat_le 32) text ≡ true → All P text
  printed [] all = All-nil P
  printed (b ∷ bs) all =
      let parts = and_parts (nat_le 32 b) (list_all (nat_le 32) bs) all in
      All-cons P b bs (high b (leb-true 32 b parts.0)) (printed bs parts.1)

  code_all : (code : AckCode) → All P (code_text code)
  code_all AA = printed (codes "AA") refl
  code_all AE = printed (codes "AE") refl
  code_all AR = printed (codes "AR") refl
  code_all CA = printed (codes "CA") refl
  code_all CE = printed (codes "CE") refl
  code_all CR = printed (codes "CR") refl

  cause_all : (cause : Cause) → All P (cause_text cause)
  cause_all UnsupportedType = printed (codes "UnsupportedType") refl
  cause_all UnsupportedProcessing = printed (codes "UnsupportedProcessing") refl
  cause_all UnsupportedVersion = printed (codes "UnsupportedVersion") refl
  cause_all MissingControlId = printed (codes "MissingControlId") refl
  cause_all BadControlId = printed (codes "BadControlId") refl
  cause_all SourceTransform = printed (codes "SourceTransform") refl
  cause_all RouteTransform = printed (codes "RouteTransform") refl
  cause_all IdReused = printed (codes "IdReused") refl
  cause_all NoMemory = printed (codes "NoMemory") refl
  cause_all Full = printed (codes "Full") refl
  cause_all PlanChanged = printed (codes "PlanChanged") refl

  digit : (n : ℕ) → P (48 + n)
  digit n = high (48 + n) (omega arith)

  two_all : (n : ℕ) → All P (two_digits n)
  two_all n = All-cons P (48 + n / 10 % 10) ((48 + n % 10) ∷ []) (digit (n / 10 % 10)) (All-cons P (48 + n % 10) [] (digit (n % 10)) (All-nil P))

  date_all : (d : CivilDate) → All P (date_text d)
  date_all d =
      All-append P (four_digits d.year ++ two_digits d.month) (two_digits d.day)
      (All-append P (four_digits d.year) (two_digits d.month)
      (All-append P (two_digits (d.year / 100)) (two_digits (d.year % 100)) (two_all (d.year / 100)) (two_all (d.year % 100)))
      (two_all d.month))
      (two_all d.day)

  time_all : (seconds : ℕ) → All P (time_text seconds)
  time_all seconds =
      All-append P (two_digits (seconds / 3600) ++ two_digits (seconds / 60 % 60)) (two_digits (seconds % 60))
      (All-append P (two_digits (seconds / 3600)) (two_digits (seconds / 60 % 60)) (two_all (seconds / 3600)) (two_all (seconds / 60 % 60)))
      (two_all (seconds % 60))

  stamp_all : (moment : ℕ) → All P (stamp moment)
  stamp_all moment =
      All-append P (date_text (civil_date (moment / 86400)) ++ time_text (moment % 86400)) (codes "+0000")
      (All-append P (date_text (civil_date (moment / 86400))) (time_text (moment % 86400)) (date_all (civil_date (moment / 86400))) (time_all (moment % 86400)))
      (printed (codes "+0000") refl)

  decimal_all : (n : ℕ) → n < 2 ^ 64 → All P (decimal n)
  decimal_all n small =
      decimal_by_steps (λ _ digits. All P digits)
      (λ n _. All-cons P (48 + n) [] (digit n) (All-nil P))
      (λ n digits _ before. All-append P digits ((48 + n % 10) ∷ []) before (All-cons P (48 + n % 10) [] (digit (n % 10)) (All-nil P)))
      n small

  id_all : (connection number : ℕ) → connection < 2 ^ 64 → number < 2 ^ 64 → All P (reply_id connection number)
  id_all connection number few small =
      All-append P (decimal connection ++ codes ".") (decimal number)
      (All-append P (decimal connection) (codes ".") (decimal_all connection few) (printed (codes ".") refl))
      (decimal_all number small)

  -- of each of several texts
  abbrev Each : List (List ℕ) → Type 0
  Each [] = Unit {0}
  Each (text ∷ texts) = All P text × Each texts

  fields_all : (separator : ℕ) (fields : List (List ℕ)) → P separator → Each fields → All P (fields_text separator fields)
  fields_all separator [] here all = All-nil P
  fields_all separator (field ∷ fields) here all =
      All-append P (separator ∷ field) (fields_text separator fields) (All-cons P separator field here all.0) (fields_all separator fields here all.1)

  segment_all : (separator : ℕ) (name : List ℕ) (fields : List (List ℕ)) → P separator → All P name → Each fields → All P (segment_text separator name fields)
  segment_all separator name fields here named all =
      All-append P (name ++ fields_text separator fields) (13 ∷ [])
      (All-append P name (fields_text separator fields) named (fields_all separator fields here all))
      (All-cons P 13 [] return (All-nil P))

  type_all : (h : Msh) → HeaderAll P h → All P (reply_type h)
  type_all h all =
      let ack = printed (codes "ACK") refl in
      let whole : All P (codes "ACK" ++ (h.delims.component ∷ (h.trigger_event ++ (h.delims.component ∷ codes "ACK")))) =
      All-append P (codes "ACK") (h.delims.component ∷ (h.trigger_event ++ (h.delims.component ∷ codes "ACK"))) ack
      (All-cons P h.delims.component (h.trigger_event ++ (h.delims.component ∷ codes "ACK")) all.component
      (All-append P h.trigger_event (h.delims.component ∷ codes "ACK") all.trigger_event (All-cons P h.delims.component (codes "ACK") all.component ack))) in
      elim (cases_Bool (is_vacant h.trigger_event)) [
        | inl none ↦ rw none ack
        | inr some ↦ rw some whole
      ]

  mode_all : (enhanced : Bool) → Each (reply_mode enhanced)
  mode_all true = let never = printed (codes "NE") refl in (All-nil P, (All-nil P, (never, (never, tt))))
  mode_all false = tt

  told_all : (cause : Option Cause) → Each (option_to_list (option_map cause_text cause))
  told_all None = tt
  told_all (Some cause) = (cause_all cause, tt)

  header_fields_all : (h : Msh) (part : AckPart) (moment : ℕ) (id : List ℕ) → HeaderAll P h → All P id → Each (reply_header h part moment id)
  header_fields_all h part moment id all here = (
    all.encoding_characters,
    (
      all.receiving_application,
      (
        all.receiving_facility,
        (
          all.sending_application,
          (
            all.sending_facility,
            (stamp_all moment, (All-nil P, (type_all h all, (here, (all.processing_id, (all.version_id, mode_all part.enhanced)))))),
          ),
        ),
      ),
    ),
  )

  pub ack_all : (h : Msh) (part : AckPart) (moment connection number : ℕ) → connection < 2 ^ 64 → number < 2 ^ 64 → HeaderAll P h → All P (ack h part moment connection number)
  ack_all h part moment connection number few small all =
      let id = reply_id connection number in
      All-append P (segment_text h.delims.field (codes "MSH") (reply_header h part moment id)) (segment_text h.delims.field (codes "MSA") (reply_answer h part))
      (segment_all h.delims.field (codes "MSH") (reply_header h part moment id) all.field (printed (codes "MSH") refl)
      (header_fields_all h part moment id all (id_all connection number few small)))
      (segment_all h.delims.field (codes "MSA") (reply_answer h part) all.field (printed (codes "MSA") refl)
      (code_all part.code, (all.control_id, told_all part.cause)))
