-- The encoding of the header of a store's file. Numbers are big-endian.
use Rattle.std.specs.Prelude.{◌<◌, ◌≤◌, ◌^◌, ℕ, List, [], ◌∷◌, ◌++◌, length, get_or, take, drop, nat_le, nat_lt, ◌&&◌, ◌==◌, if◌then◌else◌, Option, None, Some, Result, Err, IsUtf8}
use Rattle.std.specs.Int.{Width, w32, byte_len, from_be_bytes, to_be_bytes}
use Rattle.std.specs.Option.{ok_or, option_map_or}
use Rattle.std.specs.Str.{bytes_eq, is_utf8}
use Rattle.book_recovery.specs.declared.header.Header.{Header}
use Rattle.book_recovery.specs.declared.fault.HeaderFault.{HeaderFault}
use Rattle.book_recovery.specs.declared.fault.HeaderFault.TheVariants.{NoHeader, OtherFormat, Damaged}

-- what a header says: the bound of the book's entries, the version of the program that wrote the file, and the document of
-- its plan
pub record Contents : Type 0 where
  pub events_max : ℕ
  pub version : List ℕ
  pub document : List ℕ

abbrev pub contents_of : Header → Contents
contents_of h = record { events_max = h.events_max; version = h.version.now; document = h.document.now }

-- ---- encoding

-- the letters HL7S
abbrev pub magic : List ℕ
magic = 72 ∷ 76 ∷ 55 ∷ 83 ∷ []

-- a text behind its length in four bytes
abbrev pub text_bytes : List ℕ → List ℕ
text_bytes text = to_be_bytes w32 (length text) ++ text

-- the bound, the version and the document
abbrev pub contents_bytes : Contents → List ℕ
contents_bytes c = to_be_bytes w32 c.events_max ++ text_bytes c.version ++ text_bytes c.document

-- a header: the letters, the number of the format, and what it says
abbrev pub header_bytes : Contents → List ℕ
header_bytes c = magic ++ to_be_bytes w32 1 ++ contents_bytes c

-- a bound that a book may have, and texts that a header has room for
pub record Fits (c : Contents) : Type 0 where
  pub some : 1 ≤ c.events_max
  pub few : c.events_max ≤ 1000000
  pub version : length c.version ≤ 255
  pub version_text : IsUtf8 c.version
  pub document : length c.document < 2 ^ 32

-- ---- decoding

infixl 10 ◌>>=◌
abbrev pub ◌>>=◌ : {A B : Type 0} → Option A → (A → Option B) → Option B
(Some x) >>= f = f x
None >>= f = None

-- a number of this width, and the bytes behind it
abbrev pub number_at : Width → List ℕ → Option (ℕ × List ℕ)
number_at w bytes =
    if nat_lt (length bytes) (byte_len w) then None else Some (from_be_bytes w (take (byte_len w) bytes), drop (byte_len w) bytes)

-- a text behind its length, and the bytes behind it
unfoldable pub text_at : List ℕ → Option (List ℕ × List ℕ)
text_at bytes = do
  n ← number_at w32 bytes
  if nat_lt (length n.1) n.0 then None else Some (take n.0 n.1, drop n.0 n.1)

-- contents that fit
unfoldable pub fitting : Contents → Option Contents
fitting c =
    if nat_le 1 c.events_max && nat_le c.events_max 1000000 && nat_le (length c.version) 255 && is_utf8 c.version then Some c else None

-- the contents that bytes are the encoding of, with nothing behind it
unfoldable pub contents_at : List ℕ → Option Contents
contents_at bytes = do
  events_max ← number_at w32 bytes
  version ← text_at events_max.1
  document ← text_at version.1
  if length document.1 == 0 then fitting (record { events_max = events_max.0; version = version.0; document = document.0 }) else None

-- what a header of this format says
unfoldable pub contents_in : ℕ × List ℕ → Result Contents HeaderFault
contents_in format =
    if format.0 == 1 then ok_or (contents_at format.1) Damaged else Err (OtherFormat format.0)

-- what a header says behind the letters
unfoldable pub format_in : List ℕ → Result Contents HeaderFault
format_in bytes = option_map_or contents_in (number_at w32 bytes) (Err Damaged)

-- what the header says that bytes are, or why they are none
unfoldable pub header_in : List ℕ → Result Contents HeaderFault
header_in bytes = if bytes_eq (take 4 bytes) magic then format_in (drop 4 bytes) else Err NoHeader

-- each element is a byte
abbrev pub AreBytes : List ℕ → Type 0
AreBytes bytes = (i : ℕ) → get_or bytes i 0 < 256
