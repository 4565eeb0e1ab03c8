-- How the bytes of a key are kept.
use Rattle.std.specs.Prelude.{ℕ, ◌≤◌, List, take}
use Rattle.dup_index.specs.declared.key.Bytes.{Bytes}
use Rattle.dup_index.specs.declared.key.Bytes.TheVariants.{Short, Long}

-- the bytes of the key
abbrev pub bytes_of : Bytes → List ℕ
bytes_of (Short len bytes) = take len bytes
bytes_of (Long bytes) = bytes.items

-- no more bytes are kept in place than there is room for
abbrev pub IsKept : Bytes → Type 0
IsKept (Short len bytes) = len ≤ 30
IsKept (Long bytes) = Unit {0}
