-- The encoding of a preface, the first record of a file that goes on from an opening: a header of the second format, whose
-- document is the number of a connection and the opening's bytes.
use Rattle.std.specs.Prelude.{ℕ, zero, suc, ◌<◌, ◌^◌, max, List, ◌++◌, take, drop, if◌then◌else◌, Option, None, Some}
use Rattle.std.specs.Int.{w32, to_be_bytes}
use Rattle.std.specs.Option.{option_map_or}
use Rattle.std.specs.Str.{bytes_eq}
use Rattle.book_recovery.specs.declared.preface.Preface.{Preface as Read}
use Rattle.book_recovery.specs.inner.Header.{Contents, Fits, ◌>>=◌, contents_at, contents_bytes, magic, number_at}

-- what a preface says: the bound of the book's entries, the version of the program that wrote the file, the first number of a
-- connection that no message came over before it, and the bytes of the opening
pub record Preface : Type 0 where
  pub events_max : ℕ
  pub version : List ℕ
  pub connections : ℕ
  pub opening : List ℕ

abbrev pub preface_of : Read → Preface
preface_of p = record { events_max = p.events_max; version = p.version.now; connections = p.connections; opening = p.opening.now }

-- ---- encoding

-- the header of a preface
abbrev pub header_of : Preface → Contents
header_of p =
    record { events_max = p.events_max; version = p.version; document = to_be_bytes w32 p.connections ++ p.opening }

-- the letters, and the number of the second format
abbrev pub preface_head : List ℕ
preface_head = magic ++ to_be_bytes w32 2

abbrev pub preface_bytes : Preface → List ℕ
preface_bytes p = preface_head ++ contents_bytes (header_of p)

-- a header that has an encoding, and a number of four bytes
pub record PrefaceFits (p : Preface) : Type 0 where
  pub header : Fits (header_of p)
  pub connections : p.connections < 2 ^ 32

-- ---- decoding

-- the preface of a header
abbrev pub prefaced : Contents → Option Preface
prefaced c =
    number_at w32 c.document >>= λ n.
    Some (record { events_max = c.events_max; version = c.version; connections = n.0; opening = n.1 })

-- the preface that bytes are, if they are one
unfoldable pub preface_in : List ℕ → Option Preface
preface_in bytes = if bytes_eq (take 8 bytes) preface_head then contents_at (drop 8 bytes) >>= prefaced else None

-- ---- connections

-- the last number before one, if there is one
abbrev pub last_before : ℕ → Option ℕ
last_before zero = None
last_before (suc n) = Some n

-- the greater of two numbers, or the one that there is
abbrev pub later_of : Option ℕ → Option ℕ → Option ℕ
later_of None other = other
later_of (Some n) other = Some (option_map_or (max n) other n)
