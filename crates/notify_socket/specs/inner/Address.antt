-- The address of a service manager's socket: the bytes of C's `sockaddr_un` on Linux, in a buffer of 128.
use Rattle.std.specs.Prelude.{ℕ, ◌+◌, ◌==◌, Bool, if◌then◌else◌, nat_lt, List, [], ◌∷◌, ◌++◌, Option, None, Some, length, take, drop, replicate}
use Rattle.std.specs.Int.{w16, to_le_bytes}

-- the bytes written over others from an index on
unfoldable pub put : List ℕ → ℕ → List ℕ → List ℕ
put raw at bytes = take at raw ++ (bytes ++ drop (at + length bytes) raw)

-- an address without a name: its family, AF_UNIX
abbrev pub unnamed : List ℕ
unnamed = put (replicate 128 0) 0 (to_le_bytes w16 1)

-- the address of a socket whose name is a path, and how many of its bytes count: the zero behind the path does
abbrev pub path_address : List ℕ → List ℕ × ℕ
path_address path = (put unnamed 2 path, length path + 3)

-- that of a socket with a name in Linux's abstract namespace: a zero is before the name
abbrev pub abstract_address : List ℕ → List ℕ × ℕ
abstract_address name = (put unnamed 3 name, length name + 3)

-- by its first byte: `/` begins a path, `@` is written before a name in the abstract namespace
abbrev pub address_by_first : List ℕ → Option (List ℕ × ℕ)
address_by_first [] = None
address_by_first (first ∷ name) =
    if first == 47 then Some (path_address (first ∷ name)) else (if first == 64 then Some (abstract_address name) else None)

-- the address that is written so, which has at most 107 bytes
abbrev pub address_of : List ℕ → Option (List ℕ × ℕ)
address_of name = if nat_lt 107 (length name) then None else address_by_first name
