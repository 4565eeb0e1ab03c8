-- What is too long to be written.
use Rattle.std.specs.Prelude.{ℕ, ◌^◌, Bool, ◌||◌, nat_le, length}
use Rattle.std.specs.List.{list_any}
use Rattle.event_log.specs.History.{Remembered}
use Rattle.opening_records.specs.inner.Encoding.{Written, own_text}

-- 4 GiB or more
abbrev pub is_long : ℕ → Bool
is_long n = nat_le 4294967296 n

-- whether a text of an arrival is
abbrev pub has_long : Remembered → Bool
has_long r = is_long (length r.raw) || list_any (λ x. is_long (length (own_text r.raw x.payload))) r.deliveries

-- whether a text of an opening is, or there are as many arrivals
abbrev pub is_too_long : Written → Bool
is_too_long w = is_long (length w.document) || is_long (length w.remembered) || list_any has_long w.remembered
