-- An acknowledgment is a message: its fields are read back as they were written.
use Rattle.std.proofs.Common.{◌≡◌, ℕ, zero, suc, ◌+◌, ◌-◌, ◌/◌, ◌%◌, ◌<◌, ◌≤◌, ◌^◌, Bool, true, false, not, ◌&&◌, ◌||◌, List, [], ◌∷◌, ◌++◌, length, get_or, Option, Some, None, Result, Ok, Err, refl, sym, ap, ◌∙◌, subst, arith, nat_eq, nat_le, inl, inr, codes, decimal, append-nil, slice_get, if◌then◌else◌}
use Rattle.std.specs.Char.{is_ascii_alphanumeric}
use Rattle.std.specs.List.{list_all, before_first, onto_first, position_or_len}
use Rattle.std.specs.Option.{option_map, option_map_or, option_to_list}
use Rattle.std.proofs.lemmas.Bool.{and_parts, and_from, cases_Bool, eq-eqb, eqb-true, false≢true, le-leb, ne_eqb}
use Rattle.std.proofs.lemmas.Fmt.{decimal_by_steps}
use Rattle.std.proofs.lemmas.List.Folds.{list_all-append}
use Rattle.er7_tree.specs.declared.refusal.Refusal.{Refusal}
use Rattle.er7_tree.specs.Delims.{Delims, is_delimiter, lacks, delims_of, declared_by, are_delimiters}
use Rattle.er7_tree.specs.Path.{field_at}
use Rattle.er7_tree.specs.Pieces.{is_vacant, piece_at, split}
use Rattle.er7_tree.specs.Tree.{Tree, ended, first_of, is_header, text_of, tree}
use Rattle.er7_tree.specs.inner.Tree.{IsMessage}
use Rattle.er7_tree.proofs.Distinct.{Five, five, no_word, not_true}
use Rattle.er7_tree.proofs.Messages.{delims_are, split_lacks, split_own, tree_is}
use Rattle.er7_tree.proofs.Printing.{reads_again}
use Rattle.hl7_head.specs.declared.ack.AckCode.{AckCode}
use Rattle.hl7_head.specs.declared.ack.AckCode.TheVariants.{AA, AE, AR, CA, CE, CR}
use Rattle.hl7_head.specs.declared.ack.AckPart.{AckPart}
use Rattle.hl7_head.specs.declared.ack.Cause.{Cause}
use Rattle.hl7_head.specs.declared.ack.Cause.TheVariants.{UnsupportedType, UnsupportedProcessing, UnsupportedVersion, MissingControlId, BadControlId, SourceTransform, RouteTransform, IdReused, NoMemory, Full, PlanChanged}
use Rattle.hl7_head.specs.Ack.{ack, cause_text, code_text, fields_text, reply_answer, reply_header, reply_id, reply_mode, reply_type}
use Rattle.hl7_head.specs.Calendar.{CivilDate, civil_date}
use Rattle.hl7_head.specs.Header.{Msh, header, header_of, header_where}
use Rattle.hl7_head.specs.Laws.{msa_of, msa_where}
use Rattle.hl7_head.specs.inner.Laws.{header_back, answer_back}
use Rattle.hl7_head.specs.Msa.{msa}
use Rattle.hl7_head.specs.inner.Segment.{component_at, header_in}
use Rattle.hl7_head.specs.Stamp.{date_text, four_digits, stamp, time_text, two_digits}
use Rattle.hl7_head.proofs.HeaderSegment.{header_by_segment}

-- the bytes that an acknowledgment adds: letters, digits, + and .
abbrev own : ℕ → Bool
own c = (is_ascii_alphanumeric c || nat_eq c 43) || nat_eq c 46

foreign : (s c : ℕ) → own s ≡ false → own c ≡ true → nat_eq c s ≡ false
foreign s c strange mine = ne_eqb c s (λ same. false≢true (sym strange ∙ ap own (sym same) ∙ mine))

own_lacks : (s : ℕ) (text : List ℕ) → own s ≡ false → list_all own text ≡ true → lacks s text ≡ true
own_lacks s [] strange all = refl
own_lacks s (c ∷ text) strange all =
    let parts = and_parts (own c) (list_all own text) all in
    rw (foreign s c strange parts.0) (own_lacks s text strange parts.1)

-- a delimiter is none of them
delimiter_foreign : (e : ℕ) → is_delimiter e ≡ true → own e ≡ false
delimiter_foreign e is =
    let plus : nat_eq e 43 ≡ false = ne_eqb e 43 (λ same. false≢true (rw same at is)) in
    let dot : nat_eq e 46 ≡ false = ne_eqb e 46 (λ same. false≢true (rw same at is)) in
    rw (no_word e is, plus, dot) refl

own_append : (a b : List ℕ) → list_all own a ≡ true → list_all own b ≡ true → list_all own (a ++ b) ≡ true
own_append a b first second = list_all-append own a b ∙ and_from (list_all own a) (list_all own b) first second

digit_own : (n : ℕ) → n ≤ 9 → own (48 + n) ≡ true
digit_own n small = rw (le-leb 48 (48 + n) (omega arith), le-leb (48 + n) 57 (omega arith)) refl

two_own : (n : ℕ) → list_all own (two_digits n) ≡ true
two_own n = and_from (own (48 + n / 10 % 10)) (own (48 + n % 10) && true) (digit_own (n / 10 % 10) (omega arith)) (and_from (own (48 + n % 10)) true (digit_own (n % 10) (omega arith)) refl)

date_own : (d : CivilDate) → list_all own (date_text d) ≡ true
date_own d =
    own_append (four_digits d.year ++ two_digits d.month) (two_digits d.day)
    (own_append (four_digits d.year) (two_digits d.month) (own_append (two_digits (d.year / 100)) (two_digits (d.year % 100)) (two_own (d.year / 100)) (two_own (d.year % 100))) (two_own d.month))
    (two_own d.day)

time_own : (seconds : ℕ) → list_all own (time_text seconds) ≡ true
time_own seconds =
    own_append (two_digits (seconds / 3600) ++ two_digits (seconds / 60 % 60)) (two_digits (seconds % 60))
    (own_append (two_digits (seconds / 3600)) (two_digits (seconds / 60 % 60)) (two_own (seconds / 3600)) (two_own (seconds / 60 % 60)))
    (two_own (seconds % 60))

stamp_own : (moment : ℕ) → list_all own (stamp moment) ≡ true
stamp_own moment =
    own_append (date_text (civil_date (moment / 86400)) ++ time_text (moment % 86400)) (codes "+0000")
    (own_append (date_text (civil_date (moment / 86400))) (time_text (moment % 86400)) (date_own (civil_date (moment / 86400))) (time_own (moment % 86400)))
    refl

decimal_own : (n : ℕ) → n < 2 ^ 64 → list_all own (decimal n) ≡ true
decimal_own n small =
    decimal_by_steps (λ _ digits. list_all own digits ≡ true)
    (λ n below. and_from (own (48 + n)) true (digit_own n (omega arith)) refl)
    (λ n digits _ before. own_append digits ((48 + n % 10) ∷ []) before (and_from (own (48 + n % 10)) true (digit_own (n % 10) (omega arith)) refl))
    n small

id_own : (connection number : ℕ) → connection < 2 ^ 64 → number < 2 ^ 64 → list_all own (reply_id connection number) ≡ true
id_own connection number few small =
    own_append (decimal connection ++ codes ".") (decimal number) (own_append (decimal connection) (codes ".") (decimal_own connection few) refl) (decimal_own number small)

code_own : (code : AckCode) → list_all own (code_text code) ≡ true
code_own AA = refl
code_own AE = refl
code_own AR = refl
code_own CA = refl
code_own CE = refl
code_own CR = refl

cause_own : (cause : Cause) → list_all own (cause_text cause) ≡ true
cause_own UnsupportedType = refl
cause_own UnsupportedProcessing = refl
cause_own UnsupportedVersion = refl
cause_own MissingControlId = refl
cause_own BadControlId = refl
cause_own SourceTransform = refl
cause_own RouteTransform = refl
cause_own IdReused = refl
cause_own NoMemory = refl
cause_own Full = refl
cause_own PlanChanged = refl

-- each of several texts lacks a byte
abbrev EachLacks : ℕ → List (List ℕ) → Type 0
EachLacks s [] = Unit {0}
EachLacks s (text ∷ texts) = (lacks s text ≡ true) × EachLacks s texts

lacks_append : (s : ℕ) (a b : List ℕ) → lacks s a ≡ true → lacks s b ≡ true → lacks s (a ++ b) ≡ true
lacks_append s a b first second = list_all-append (λ c. not (nat_eq c s)) a b ∙ and_from (lacks s a) (lacks s b) first second

fields_lack : (s separator : ℕ) (fields : List (List ℕ)) → nat_eq separator s ≡ false → EachLacks s fields → lacks s (fields_text separator fields) ≡ true
fields_lack s separator [] other all = refl
fields_lack s separator (field ∷ fields) other all =
    lacks_append s (separator ∷ field) (fields_text separator fields) (rw other all.0) (fields_lack s separator fields other all.1)

-- at a separator, a text that lacks it is the first piece
split_behind : (s : ℕ) (text rest : List ℕ) → lacks s text ≡ true → split s (text ++ s ∷ rest) ≡ text ∷ split s rest
split_behind s [] rest bare = rw (eq-eqb s s refl) refl
split_behind s (c ∷ text) rest bare =
    let parts = and_parts (not (nat_eq c s)) (lacks s text) bare in
    rw (not_true (nat_eq c s) parts.0, split_behind s text rest parts.1) refl

split_bare : (s : ℕ) (text : List ℕ) → lacks s text ≡ true → split s text ≡ text ∷ []
split_bare s [] bare = refl
split_bare s (c ∷ text) bare =
    let parts = and_parts (not (nat_eq c s)) (lacks s text) bare in
    rw (not_true (nat_eq c s) parts.0, split_bare s text parts.1) refl

-- fields that lack the separator are read as they were written
split_fields : (s : ℕ) (name : List ℕ) (fields : List (List ℕ)) → lacks s name ≡ true → EachLacks s fields → split s (name ++ fields_text s fields) ≡ name ∷ fields
split_fields s name [] bare all = ap (split s) (append-nil name) ∙ split_bare s name bare
split_fields s name (field ∷ fields) bare all =
    split_behind s name (field ++ fields_text s fields) bare ∙ ap (λ pieces. name ∷ pieces) (split_fields s field fields all.0 all.1)

piece_lacks : (s n : ℕ) (pieces : List (List ℕ)) → list_all (lacks s) pieces ≡ true → lacks s (piece_at n pieces) ≡ true
piece_lacks s n pieces all = at_lacks pieces (n - 1) all where
  at_lacks : (pieces : List (List ℕ)) (k : ℕ) → list_all (lacks s) pieces ≡ true → lacks s (get_or pieces k []) ≡ true
  at_lacks [] k all = refl
  at_lacks (piece ∷ pieces) zero all = (and_parts (lacks s piece) (list_all (lacks s) pieces) all).0
  at_lacks (piece ∷ pieces) (suc k) all = at_lacks pieces k (and_parts (lacks s piece) (list_all (lacks s) pieces) all).1

onto_head : (b : ℕ) (pieces : List (List ℕ)) → piece_at 1 (onto_first b pieces) ≡ b ∷ piece_at 1 pieces
onto_head b [] = refl
onto_head b (piece ∷ pieces) = refl

-- a first piece is what stands before the first separator
before_is : (s : ℕ) (text : List ℕ) → piece_at 1 (split s text) ≡ before_first (λ b. nat_eq b s) text
before_is s [] = refl
before_is s (b ∷ bs) =
    elim (cases_Bool (nat_eq b s)) [
      | inl here ↦ rw here refl
      | inr other ↦ let longer : 1 + position_or_len (λ x. nat_eq x s) bs ≡ suc (position_or_len (λ x. nat_eq x s) bs) = omega arith in
          rw (other, longer) (onto_head b (split s bs) ∙ ap (λ piece. b ∷ piece) (before_is s bs))
    ]

before_bare : (s : ℕ) (text rest : List ℕ) → lacks s text ≡ true → before_first (λ b. nat_eq b s) (text ++ s ∷ rest) ≡ text
before_bare s text rest bare = sym (before_is s (text ++ s ∷ rest)) ∙ ap (piece_at 1) (split_behind s text rest bare)

-- what declares delimiters has the first as its own
declared_same : (field : ℕ) (characters : List ℕ) (d : Delims) → declared_by field characters ≡ Some d → d.field ≡ field
declared_same field [] d is = cc
declared_same field (c ∷ []) d is = cc
declared_same field (c ∷ r ∷ []) d is = cc
declared_same field (c ∷ r ∷ e ∷ []) d is = cc
declared_same field (c ∷ r ∷ e ∷ s ∷ extra) d is =
    elim (cases_Bool (nat_le (length extra) 1 && are_delimiters (field ∷ c ∷ r ∷ e ∷ s ∷ extra))) [
      | inl good ↦ let read : Delims = record { field = field; component = c; repetition = r; escape = e; subcomponent = s } in
          let same : Some read ≡ Some d = rw good at is in
          let one : read ≡ d = cc in
          ap (λ (x : Delims). x.field) (sym one)
      | inr bad ↦ let none : None ≡ Some d = rw bad at is in cc
    ]

-- the second piece of a header segment declares what the segment does
declared_again : (d : Delims) (first : List ℕ) → is_header first ≡ true → delims_of first ≡ Some d → own d.field ≡ false → declared_by d.field (piece_at 2 (split d.field first)) ≡ Some d
declared_again d [] named declared strange = cc
declared_again d (a ∷ []) named declared strange = cc
declared_again d (a ∷ b ∷ []) named declared strange = cc
declared_again d (a ∷ b ∷ c ∷ []) named declared strange = cc
declared_again d (a ∷ b ∷ c ∷ field ∷ rest) named declared strange =
    let same = declared_same field (before_first (λ b. nat_eq b field) rest) d declared in
    let one = and_parts (nat_eq 77 a) (nat_eq 83 b && (nat_eq 72 c && true)) named in
    let two = and_parts (nat_eq 83 b) (nat_eq 72 c && true) one.1 in
    let three = and_parts (nat_eq 72 c) true two.1 in
    let foreign_field : own field ≡ false = rw same at strange in
    let first : nat_eq a field ≡ false = rw (sym (eqb-true 77 a one.0)) (foreign field 77 foreign_field refl) in
    let second : nat_eq b field ≡ false = rw (sym (eqb-true 83 b two.0)) (foreign field 83 foreign_field refl) in
    let third : nat_eq c field ≡ false = rw (sym (eqb-true 72 c three.0)) (foreign field 72 foreign_field refl) in
    let P : ℕ → Type 0 = λ s. declared_by s (piece_at 2 (split s (a ∷ b ∷ c ∷ field ∷ rest))) ≡ Some d in
    let at_field : P field = rw (first, second, third, eq-eqb field field refl, before_is field rest) declared in
    subst P (sym same) at_field

-- what a readable message's header holds
module _ (d : Delims) (first : List ℕ) (parts : Five d) (named : is_header first ≡ true) (declared : delims_of first ≡ Some d) (unbroken : lacks 13 first ≡ true) where
  abbrev h : Msh
  h = header_in d first

  field_is : (n : ℕ) → nat_eq n 1 ≡ false → field_at d n first ≡ piece_at n (split d.field first)
  field_is n other = rw (named, other) refl

  field_bare : (n : ℕ) → nat_eq n 1 ≡ false → lacks d.field (field_at d n first) ≡ true
  field_bare n other = rw (field_is n other) (piece_lacks d.field n (split d.field first) (split_own d.field first))

  field_whole : (n : ℕ) → nat_eq n 1 ≡ false → lacks 13 (field_at d n first) ≡ true
  field_whole n other = rw (field_is n other) (piece_lacks 13 n (split d.field first) (split_lacks 13 d.field first unbroken))

  -- a component lacks what its field lacks, and its own separator and that of repetitions
  component_bare : (s n c : ℕ) → lacks s (field_at d n first) ≡ true → lacks s (component_at d n c first) ≡ true
  component_bare s n c bare =
      let repetition = piece_lacks s 1 (split d.repetition (field_at d n first)) (split_lacks s d.repetition (field_at d n first) bare) in
      piece_lacks s c (split d.component (piece_at 1 (split d.repetition (field_at d n first)))) (split_lacks s d.component (piece_at 1 (split d.repetition (field_at d n first))) repetition)

  event_component : lacks d.component h.trigger_event ≡ true
  event_component = piece_lacks d.component 2 (split d.component (piece_at 1 (split d.repetition (field_at d 9 first)))) (split_own d.component (piece_at 1 (split d.repetition (field_at d 9 first))))

  event_repetition : lacks d.repetition h.trigger_event ≡ true
  event_repetition =
      let repetition = piece_lacks d.repetition 1 (split d.repetition (field_at d 9 first)) (split_own d.repetition (field_at d 9 first)) in
      piece_lacks d.repetition 2 (split d.component (piece_at 1 (split d.repetition (field_at d 9 first)))) (split_lacks d.repetition d.component (piece_at 1 (split d.repetition (field_at d 9 first))) repetition)

  -- MSH-2 declares the delimiters again
  declares_again : declared_by d.field h.encoding_characters ≡ Some d
  declares_again = rw (field_is 2 refl) (declared_again d first named declared (delimiter_foreign d.field parts.field))

  type_bare : (s : ℕ) → own s ≡ false → nat_eq d.component s ≡ false → lacks s h.trigger_event ≡ true → lacks s (reply_type h) ≡ true
  type_bare s strange other bare =
      let ack : lacks s (codes "ACK") ≡ true = own_lacks s (codes "ACK") strange refl in
      elim (cases_Bool (is_vacant h.trigger_event)) [
        | inl none ↦ rw none ack
        | inr some ↦ rw some (lacks_append s (codes "ACK") (d.component ∷ (h.trigger_event ++ (d.component ∷ codes "ACK"))) ack
            (rw other (lacks_append s h.trigger_event (d.component ∷ codes "ACK") bare (rw other ack))))
      ]

  mode_bare : (s : ℕ) → own s ≡ false → (enhanced : Bool) → EachLacks s (reply_mode enhanced)
  mode_bare s strange true = let never = own_lacks s (codes "NE") strange refl in (refl, (refl, (never, (never, tt))))
  mode_bare s strange false = tt

  module _ (part : AckPart) (moment connection number : ℕ) (few : connection < 2 ^ 64) (small : number < 2 ^ 64) where
    abbrev fields : List (List ℕ)
    fields = reply_header h part moment (reply_id connection number)

    header_bare : (s : ℕ) → own s ≡ false → nat_eq d.component s ≡ false → ((n : ℕ) → nat_eq n 1 ≡ false → lacks s (field_at d n first) ≡ true) → EachLacks s fields
    header_bare s strange other bare = (
      bare 2 refl,
      (
        bare 5 refl,
        (
          bare 6 refl,
          (
            bare 3 refl,
            (
              bare 4 refl,
              (
                own_lacks s (stamp moment) strange (stamp_own moment),
                (
                  refl,
                  (
                    type_bare s strange other (component_bare s 9 2 (bare 9 refl)),
                    (
                      own_lacks s (reply_id connection number) strange (id_own connection number few small),
                      (bare 11 refl, (bare 12 refl, mode_bare s strange part.enhanced)),
                    ),
                  ),
                ),
              ),
            ),
          ),
        ),
      ),
    )

    told_bare : (s : ℕ) → own s ≡ false → (cause : Option Cause) → EachLacks s (option_to_list (option_map cause_text cause))
    told_bare s strange None = tt
    told_bare s strange (Some cause) = (own_lacks s (cause_text cause) strange (cause_own cause), tt)

    answer_bare : (s : ℕ) → own s ≡ false → ((n : ℕ) → nat_eq n 1 ≡ false → lacks s (field_at d n first) ≡ true) → EachLacks s (reply_answer h part)
    answer_bare s strange bare = (own_lacks s (code_text part.code) strange (code_own part.code), (bare 10 refl, told_bare s strange part.cause))

    abbrev reply_msh : List ℕ
    reply_msh = codes "MSH" ++ fields_text d.field fields

    abbrev reply_msa : List ℕ
    reply_msa = codes "MSA" ++ fields_text d.field (reply_answer h part)

    abbrev reply : Tree
    reply = record { delims = d; segments = reply_msh ∷ reply_msa ∷ [] }

    separator : own d.field ≡ false
    separator = delimiter_foreign d.field parts.field

    field_no_end : nat_eq d.field 13 ≡ false
    field_no_end = ne_eqb d.field 13 (λ same. false≢true (rw same at parts.field))

    component_no_end : nat_eq d.component 13 ≡ false
    component_no_end = ne_eqb d.component 13 (λ same. false≢true (rw same at parts.component))

    reply_declares : delims_of reply_msh ≡ Some d
    reply_declares = ap (declared_by d.field) (before_bare d.field h.encoding_characters _ (field_bare 2 refl)) ∙ declares_again

    reply_is : IsMessage reply
    reply_is = record {
      header = refl;
      declared = reply_declares;
      named = rw (eq-eqb d.field d.field refl) refl;
      few = omega arith;
      unbroken = and_from (lacks 13 reply_msh) (lacks 13 reply_msa && true)
          (lacks_append 13 (codes "MSH") (fields_text d.field fields) refl (fields_lack 13 d.field fields field_no_end (header_bare 13 refl component_no_end field_whole)))
          (and_from (lacks 13 reply_msa) true
          (lacks_append 13 (codes "MSA") (fields_text d.field (reply_answer h part)) refl (fields_lack 13 d.field (reply_answer h part) field_no_end (answer_bare 13 refl field_whole)))
          refl);
    }

    reply_text : ack h part moment connection number ≡ text_of reply
    reply_text = ap (λ (t : List ℕ). ended reply_msh ++ t) (sym (append-nil (ended reply_msa)))

    reply_read : tree (ack h part moment connection number) ≡ Ok reply
    reply_read = ap tree reply_text ∙ reads_again reply reply_is

    header_pieces : split d.field reply_msh ≡ codes "MSH" ∷ fields
    header_pieces = split_fields d.field (codes "MSH") fields (own_lacks d.field (codes "MSH") separator refl) (header_bare d.field separator parts.component_field field_bare)

    answer_pieces : split d.field reply_msa ≡ codes "MSA" ∷ reply_answer h part
    answer_pieces = split_fields d.field (codes "MSA") (reply_answer h part) (own_lacks d.field (codes "MSA") separator refl) (answer_bare d.field separator field_bare)

    reply_field : (n : ℕ) → nat_eq n 1 ≡ false → field_at d n reply_msh ≡ piece_at n (codes "MSH" ∷ fields)
    reply_field n other = rw (other, header_pieces) refl

    answer_field : (n : ℕ) → field_at d n reply_msa ≡ piece_at (n + 1) (codes "MSA" ∷ reply_answer h part)
    answer_field n = rw answer_pieces refl

    type_pieces : split d.repetition (reply_type h) ≡ reply_type h ∷ []
    type_pieces = split_bare d.repetition (reply_type h) (type_bare d.repetition (delimiter_foreign d.repetition parts.repetition) parts.component_repetition event_repetition)

    type_code : piece_at 1 (split d.component (reply_type h)) ≡ codes "ACK"
    type_code =
        let ack : lacks d.component (codes "ACK") ≡ true = own_lacks d.component (codes "ACK") (delimiter_foreign d.component parts.component) refl in
        elim (cases_Bool (is_vacant h.trigger_event)) [
          | inl none ↦ rw (none, split_bare d.component (codes "ACK") ack) refl
          | inr some ↦ rw (some, split_behind d.component (codes "ACK") (h.trigger_event ++ (d.component ∷ codes "ACK")) ack) refl
        ]

    type_event : piece_at 2 (split d.component (reply_type h)) ≡ (if is_vacant h.trigger_event then [] else h.trigger_event)
    type_event =
        let ack : lacks d.component (codes "ACK") ≡ true = own_lacks d.component (codes "ACK") (delimiter_foreign d.component parts.component) refl in
        elim (cases_Bool (is_vacant h.trigger_event)) [
          | inl none ↦ rw (none, split_bare d.component (codes "ACK") ack) refl
          | inr some ↦ rw (
            some,
            split_behind d.component (codes "ACK") (h.trigger_event ++ (d.component ∷ codes "ACK")) ack,
            split_behind d.component h.trigger_event (codes "ACK") event_component,
          ) refl
        ]

    mode_accept : get_or (reply_mode part.enhanced) 2 [] ≡ (if part.enhanced then codes "NE" else [])
    mode_accept = modes part.enhanced where
      modes : (enhanced : Bool) → get_or (reply_mode enhanced) 2 [] ≡ (if enhanced then codes "NE" else [])
      modes true = refl
      modes false = refl

    mode_application : get_or (reply_mode part.enhanced) 3 [] ≡ (if part.enhanced then codes "NE" else [])
    mode_application = modes part.enhanced where
      modes : (enhanced : Bool) → get_or (reply_mode enhanced) 3 [] ≡ (if enhanced then codes "NE" else [])
      modes true = refl
      modes false = refl

    types : header_in d reply_msh ≡ header_back h part connection number
    types = rw (
      reply_field 2 refl,
      reply_field 3 refl,
      reply_field 4 refl,
      reply_field 5 refl,
      reply_field 6 refl,
      reply_field 9 refl,
      reply_field 10 refl,
      reply_field 11 refl,
      reply_field 12 refl,
      reply_field 15 refl,
      reply_field 16 refl,
      type_pieces,
      type_code,
      type_event,
      mode_accept,
      mode_application,
    ) refl

    told : (cause : Option Cause) → get_or (option_to_list (option_map cause_text cause)) 0 [] ≡ option_map_or cause_text cause []
    told None = refl
    told (Some cause) = refl

    answers : msa reply ≡ Some (answer_back h part)
    answers = rw (answer_field 1, answer_field 2, answer_field 3, told part.cause) refl

    pub header_reads : header_of (ack h part moment connection number) ≡ Some (header_back h part connection number)
    header_reads = ap header_where reply_read ∙ ap Some (sym (header_by_segment reply reply_msh refl refl) ∙ types)

    pub answer_reads : msa_of (ack h part moment connection number) ≡ Some (answer_back h part)
    answer_reads = ap msa_where reply_read ∙ answers

-- the two facts of the acknowledgment of a header
pub record ReadsBack (h : Msh) (part : AckPart) (moment connection number : ℕ) : Type 0 where
  pub header : header_of (ack h part moment connection number) ≡ Some (header_back h part connection number)
  pub answer : msa_of (ack h part moment connection number) ≡ Some (answer_back h part)

first_bare : (segments : List (List ℕ)) → list_all (lacks 13) segments ≡ true → lacks 13 (first_of segments) ≡ true
first_bare [] all = refl
first_bare (first ∷ others) all = (and_parts (lacks 13 first) (list_all (lacks 13) others) all).0

first_there : (segments : List (List ℕ)) → is_header (first_of segments) ≡ true → slice_get segments 0 ≡ Some (first_of segments)
first_there [] named = cc
first_there (first ∷ others) named = refl

module _ (part : AckPart) (moment connection number : ℕ) (few : connection < 2 ^ 64) (small : number < 2 ^ 64) where
  message_reads : (t : Tree) → IsMessage t → ReadsBack (header t) part moment connection number
  message_reads t whole =
      let first = first_of t.segments in
      let d = t.delims in
      let parts = five d (delims_are t whole) in
      let bare = first_bare t.segments whole.unbroken in
      let Q : Msh → Type 0 = λ h. ReadsBack h part moment connection number in
      subst Q (header_by_segment t first (first_there t.segments whole.header) whole.header) (record {
        header = header_reads d first parts whole.header whole.declared bare part moment connection number few small;
        answer = answer_reads d first parts whole.header whole.declared bare part moment connection number few small;
      })

  text_reads : (read : Result Tree Refusal) (text : List ℕ) (h : Msh) → tree text ≡ read → header_where read ≡ Some h → ReadsBack h part moment connection number
  text_reads (Ok t) text h is found =
      let same : header t ≡ h = cc in
      let Q : Msh → Type 0 = λ h. ReadsBack h part moment connection number in
      subst Q same (message_reads t (tree_is text t is))
  text_reads (Err e) text h is found = cc

  -- the acknowledgment of a message that can be read
  pub reads_back : (text : List ℕ) (h : Msh) → header_of text ≡ Some h → ReadsBack h part moment connection number
  reads_back text h is = text_reads (tree text) text h refl is
