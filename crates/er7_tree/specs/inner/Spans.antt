-- Ranges of a text that cover its segments.
use Rattle.std.specs.Prelude.{◌≡◌, ℕ, ◌+◌, ◌<◌, ◌≤◌, slice_index, List, [], ◌∷◌, length, map, slice_range}
use Rattle.er7_tree.specs.declared.segments.Span.{Span}
use Rattle.er7_tree.specs.Tree.{Tree}
use Rattle.er7_tree.specs.inner.Tree.{IsMessage}
use Rattle.er7_tree.specs.Delims.{Delims}

-- the bytes that a span covers
abbrev pub covered : List ℕ → Span → List ℕ
covered text span = slice_range text span.start span.end

-- the message of these delimiters whose segments the spans cover
abbrev pub spanned : Delims → List ℕ → List Span → Tree
spanned d text spans = record { delims = d; segments = map (covered text) spans }

-- the span lies between two offsets
pub record IsBetween (from to : ℕ) (span : Span) : Type 0 where
  pub behind : from ≤ span.start
  pub ordered : span.start ≤ span.end
  pub within : span.end ≤ to

-- the spans follow one another between two offsets
abbrev pub InOrder : ℕ → ℕ → List Span → Type 0
InOrder from to [] = from ≤ to
InOrder from to (span ∷ spans) = IsBetween from to span × InOrder span.end to spans

-- the spans of a message in the text that is kept for it
pub record AreSpans (d : Delims) (text : List ℕ) (spans : List Span) : Type 0 where
  pub in_order : InOrder 0 (length text) spans
  pub message : IsMessage (spanned d text spans)

-- a search for the ends of segments, which goes on at `at`, is not past the offset from which the next segment is read,
-- but for the carriage return there
pub record IsNear (text : List ℕ) (from at : ℕ) : Type 0 where
  pub most : at ≤ from + 1
  pub here : from < at → from < length text → slice_index text from ≡ 13
  pub last : from ≡ length text → at ≤ from
