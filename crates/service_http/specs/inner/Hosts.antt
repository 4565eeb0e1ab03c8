-- Which hosts a request may name.
use Rattle.std.specs.Prelude.{ℕ, Bool, true, false, ◌&&◌, ◌||◌, ◌==◌, List, [], ◌∷◌, length, take, drop, map, codes}
use Rattle.std.specs.List.{list_all, list_any}
use Rattle.std.specs.Char.{is_ascii_digit, to_ascii_lowercase}
use Rattle.std.specs.Str.{bytes_eq}

-- the same texts but for the case of ASCII letters
abbrev pub same_letters : List ℕ → List ℕ → Bool
same_letters a b = bytes_eq (map to_ascii_lowercase a) (map to_ascii_lowercase b)

-- a byte of an IPv4 address and its port: a digit, a dot or a colon
abbrev pub is_address_byte : ℕ → Bool
is_address_byte b = is_ascii_digit b || (b == 46 || b == 58)

-- what is written as an IP address, for which no name is looked up: in brackets, or of digits, dots and colons alone
abbrev pub is_address : List ℕ → Bool
is_address [] = false
is_address (b ∷ bs) = b == 91 || list_all is_address_byte (b ∷ bs)

-- nothing, or a colon and what follows it
abbrev pub is_port : List ℕ → Bool
is_port [] = true
is_port (b ∷ bs) = b == 58

-- whether a host is this name, in any case of its letters, with a port or without
abbrev pub is_named : List ℕ → List ℕ → Bool
is_named host name = same_letters (take (length name) host) name && is_port (drop (length name) host)

-- whether a request for a host is answered: for an IP address, for localhost, and for the names that were given
abbrev pub is_answered : List (List ℕ) → List ℕ → Bool
is_answered names host = is_address host || (is_named host (codes "localhost") || list_any (is_named host) names)
