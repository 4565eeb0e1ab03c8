-- The offsets of the pieces of a header in its segment.
use Rattle.std.specs.Prelude.{◌≡◌, ℕ, ◌+◌, ◌<◌, ◌≤◌, List, length, All, min, slice_index_or, slice_range}
use Rattle.er7_tree.specs.Pieces.{split, piece_at}
use Rattle.er7_tree.specs.Delims.{Delims}
use Rattle.er7_tree.specs.declared.segments.Span.{Span}
use Rattle.er7_tree.specs.inner.Spans.{covered, IsBetween}
use Rattle.hl7_head.specs.declared.places.Places.{Places}
use Rattle.hl7_head.specs.Header.{Msh}

-- the piece is the first of a part of a text, and the others are those after the separator that follows it; where none follows they are empty
pub record ReadsFirst (text : List ℕ) (separator : ℕ) (part piece : Span) : Type 0 where
  pub starts : piece.start ≡ part.start
  pub ordered : piece.start ≤ piece.end
  pub ends : piece.end ≤ part.end
  pub first : covered text piece ≡ piece_at 1 (split separator (covered text part))
  pub others : (n : ℕ) → piece_at (n + 1) (split separator (slice_range text (min part.end (piece.end + 1)) part.end))
      ≡ piece_at (n + 2) (split separator (covered text part))

-- the spans hold the first pieces in their order, and empty ones after the last
pub record AreFirstPieces (text : List ℕ) (pieces : List (List ℕ)) (spans : List Span) : Type 0 where
  pub within : All (IsBetween 0 (length text)) spans
  pub read : (n : ℕ) (d : Span) → n < length spans → covered text (slice_index_or spans n d) ≡ piece_at (n + 1) pieces

-- each span lies in a segment of that many bytes
pub record AreWithin (size : ℕ) (places : Places) : Type 0 where
  pub encoding_characters : IsBetween 0 size places.encoding_characters
  pub sending_application : IsBetween 0 size places.sending_application
  pub sending_facility : IsBetween 0 size places.sending_facility
  pub receiving_application : IsBetween 0 size places.receiving_application
  pub receiving_facility : IsBetween 0 size places.receiving_facility
  pub message_code : IsBetween 0 size places.message_code
  pub trigger_event : IsBetween 0 size places.trigger_event
  pub control_id : IsBetween 0 size places.control_id
  pub processing_id : IsBetween 0 size places.processing_id
  pub processing_code : IsBetween 0 size places.processing_code
  pub version_id : IsBetween 0 size places.version_id
  pub version_code : IsBetween 0 size places.version_code
  pub accept_type : IsBetween 0 size places.accept_type
  pub application_type : IsBetween 0 size places.application_type

-- what a header segment holds at these spans
abbrev pub pieces_at : Delims → List ℕ → Places → Msh
pieces_at delims segment places = record {
  delims = delims;
  encoding_characters = covered segment places.encoding_characters;
  sending_application = covered segment places.sending_application;
  sending_facility = covered segment places.sending_facility;
  receiving_application = covered segment places.receiving_application;
  receiving_facility = covered segment places.receiving_facility;
  message_code = covered segment places.message_code;
  trigger_event = covered segment places.trigger_event;
  control_id = covered segment places.control_id;
  processing_id = covered segment places.processing_id;
  processing_code = covered segment places.processing_code;
  version_id = covered segment places.version_id;
  version_code = covered segment places.version_code;
  accept_type = covered segment places.accept_type;
  application_type = covered segment places.application_type;
}
