-- What proofs use beside the page Laws.
use Rattle.std.specs.Prelude.{◌≡◌, ◌≢◌, ℕ, ◌<◌, Bool, true, [], if◌then◌else◌, codes}
use Rattle.std.specs.Option.{option_map_or}
use Rattle.er7_tree.specs.Pieces.{is_vacant}
use Rattle.hl7_head.specs.declared.ack.AckPart.{AckPart}
use Rattle.hl7_head.specs.Ack.{cause_text, code_text, reply_id}
use Rattle.hl7_head.specs.Header.{Msh}
use Rattle.hl7_head.specs.Msa.{MsaFields}

-- The bytes that pass are control bytes, which are below the space, 32, and none is the carriage return, 13, which
-- ends segments.
abbrev pub AreControl : (ℕ → Bool) → Type 0
AreControl control = (b : ℕ) → control b ≡ true → (b < 32) × (b ≢ 13)

-- the header that an acknowledgment has itself: sender and receiver are exchanged
abbrev pub header_back : Msh → AckPart → ℕ → ℕ → Msh
header_back h part connection number = record {
  delims = h.delims;
  encoding_characters = h.encoding_characters;
  sending_application = h.receiving_application;
  sending_facility = h.receiving_facility;
  receiving_application = h.sending_application;
  receiving_facility = h.sending_facility;
  message_code = codes "ACK";
  trigger_event = if is_vacant h.trigger_event then [] else h.trigger_event;
  control_id = reply_id connection number;
  processing_id = h.processing_id;
  processing_code = h.processing_code;
  version_id = h.version_id;
  version_code = h.version_code;
  accept_type = if part.enhanced then codes "NE" else [];
  application_type = if part.enhanced then codes "NE" else [];
}

-- the answer that an acknowledgment gives
abbrev pub answer_back : Msh → AckPart → MsaFields
answer_back h part = record { code = code_text part.code; control_id = h.control_id; text = option_map_or cause_text part.cause [] }
