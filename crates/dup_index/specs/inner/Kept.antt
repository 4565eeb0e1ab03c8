-- How a known key and its history index are kept.
use Rattle.std.specs.Prelude.{◌≤◌, take}
use Rattle.dup_index.specs.inner.Known.{Known}
use Rattle.dup_index.specs.declared.known.Kept.{Kept}
use Rattle.dup_index.specs.declared.known.Kept.TheVariants.{Short, Long}

-- the key and its history index
abbrev pub known_of : Kept → Known
known_of (Short len bytes place) = record { key = take len bytes; place = place }
known_of (Long place bytes) = record { key = bytes.items; place = place }

-- no more bytes are kept in place than there is room for
abbrev pub IsKept : Kept → Type 0
IsKept (Short len bytes place) = len ≤ 26
IsKept (Long place bytes) = Unit {0}
