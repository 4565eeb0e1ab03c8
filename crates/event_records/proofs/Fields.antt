-- A field that was written is read again.
use Rattle.std.proofs.Common.{◌≡◌, ℕ, ◌^◌, ◌<◌, false, ltb, List, ◌++◌, length, Ok, refl, arith}
use Rattle.std.specs.Int.{Width, w32, w64, byte_len, from_be_bytes, to_be_bytes}
use Rattle.std.proofs.lemmas.Bool.{le-ltb}
use Rattle.std.proofs.lemmas.List.{take_at, drop_at, length-append}
use Rattle.std.proofs.lemmas.Nat.{from_be_bytes-to_be_bytes_4, from_be_bytes-to_be_bytes_8}
use Rattle.event_records.specs.declared.head.Head.{Head}
use Rattle.event_records.specs.inner.Fields.{IsHead}
use Rattle.event_records.specs.inner.Encoding.{text_bytes, head_bytes}
use Rattle.event_records.specs.inner.Decoding.{number_at, text_at, numbers_at, head_at}

-- ---- numbers

pub record IsWide (w : Width) (limit : ℕ) : Type 0 where
  pub len : (n : ℕ) → length (to_be_bytes w n) ≡ byte_len w
  pub again : (n : ℕ) → n < limit → from_be_bytes w (to_be_bytes w n) ≡ n

pub wide32 : IsWide w32 (2 ^ 32)
wide32 = record { len = λ n. refl; again = λ n lt. from_be_bytes-to_be_bytes_4 n lt }

pub wide64 : IsWide w64 (2 ^ 64)
wide64 = record { len = λ n. refl; again = λ n lt. from_be_bytes-to_be_bytes_8 n lt }

pub number_again : (w : Width) (limit : ℕ) (wide : IsWide w limit) (n : ℕ) (rest : List ℕ) → n < limit → number_at w (to_be_bytes w n ++ rest) ≡ Ok (n, rest)
number_again w limit wide n rest lt =
    let len = wide.len n in
    let long : ltb (length (to_be_bytes w n ++ rest)) (byte_len w) ≡ false = le-ltb _ _ (omega (arith, length-append (to_be_bytes w n) rest)) in
    rw (long, take_at (to_be_bytes w n) rest (byte_len w) len, drop_at (to_be_bytes w n) rest (byte_len w) len, wide.again n lt) refl

-- ---- texts

pub text_again : (text rest : List ℕ) → length text < 2 ^ 32 → text_at (text_bytes text ++ rest) ≡ Ok (text, rest)
unfolding text_at
text_again text rest lt =
    let long : ltb (length (text ++ rest)) (length text) ≡ false = le-ltb _ _ (omega (arith, length-append text rest)) in
    rw (number_again w32 (2 ^ 32) wide32 (length text) (text ++ rest) lt, long, take_at text rest (length text) refl, drop_at text rest (length text) refl) refl

-- ---- heads

pub head_again : (h : Head) (rest : List ℕ) → IsHead h → head_at (head_bytes h ++ rest) ≡ Ok (h, rest)
unfolding head_at numbers_at
head_again h rest fits =
    let moment_fits : h.moment < 2 ^ 64 = omega (arith, fits.moment) in
    rw (
      number_again w32 (2 ^ 32) wide32 h.first (to_be_bytes w32 h.second ++ to_be_bytes w32 h.third ++ to_be_bytes w64 h.moment ++ rest) fits.first,
      number_again w32 (2 ^ 32) wide32 h.second (to_be_bytes w32 h.third ++ to_be_bytes w64 h.moment ++ rest) fits.second,
      number_again w32 (2 ^ 32) wide32 h.third (to_be_bytes w64 h.moment ++ rest) fits.third,
      number_again w64 (2 ^ 64) wide64 h.moment rest moment_fits,
    ) refl
