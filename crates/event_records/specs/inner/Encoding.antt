-- The encoding of each record. Numbers are big-endian.
use Rattle.std.specs.Prelude.{ℕ, List, ◌∷◌, ◌++◌, length}
use Rattle.std.specs.List.{flat_map}
use Rattle.std.specs.Int.{w32, w64, to_be_bytes}
use Rattle.event_records.specs.declared.record.Record.{Record}
use Rattle.event_records.specs.declared.head.Head.{Head}
use Rattle.event_records.specs.inner.Fields.{head_of, text_of}

-- a head in 22 bytes
abbrev pub head_bytes : Head → List ℕ
head_bytes h =
    h.kind ∷ h.part ∷ to_be_bytes w32 h.first ++ to_be_bytes w32 h.second ++ to_be_bytes w32 h.third ++ to_be_bytes w64 h.moment

-- a text behind its length in four bytes
abbrev pub text_bytes : List ℕ → List ℕ
text_bytes text = to_be_bytes w32 (length text) ++ text

-- a record: its head and its text, 26 bytes beside the text
abbrev pub encoding : Record → List ℕ
encoding r = head_bytes (head_of r) ++ text_bytes (text_of r)

-- records, one behind the other
abbrev pub encodings : List Record → List ℕ
encodings rs = flat_map encoding rs

-- a batch: the number of records in four bytes, and each record
abbrev pub batch_encoding : List Record → List ℕ
batch_encoding rs = to_be_bytes w32 (length rs) ++ encodings rs
