-- What a preface is read as, and that it is read back.
use Rattle.std.proofs.Common.{◌≡◌, ℕ, ◌^◌, ◌<◌, Bool, true, false, List, [], ◌∷◌, ◌++◌, length, get_or, take, drop, Option, None, Some, Ok, refl, sym, ap, subst, ◌∙◌, cond, arith}
use Rattle.std.specs.Int.{w32, to_be_bytes}
use Rattle.std.specs.Str.{bytes_eq}
use Rattle.std.specs.Prelude.{Result, IfSome}
use Rattle.std.specs.Option.{option_map}
use Rattle.std.proofs.lemmas.List.{drop_at, take-append-drop}
use Rattle.book_recovery.specs.declared.preface.Preface.{Preface as Read}
use Rattle.book_recovery.specs.inner.Header.{AreBytes, Contents, ◌>>=◌, contents_at, contents_bytes, header_bytes, magic, number_at, text_bytes}
use Rattle.book_recovery.specs.inner.Preface.{Preface, PrefaceFits, header_of, preface_bytes, preface_head, preface_in, preface_of, prefaced}
use Rattle.book_recovery.proofs.Codec.{Bound, bound, bytes_dropped, contents_again, contents_only, got, number_again, number_only, same_bytes}

-- ---- what is written is read back

its_preface : (p : Preface) → p.connections < 2 ^ 32 → prefaced (header_of p) ≡ Some p
its_preface p lt = rw (number_again p.connections p.opening lt) refl

pub back : (p : Preface) → PrefaceFits p → preface_in (preface_bytes p) ≡ Some p
unfolding preface_in
back p fits = rw (contents_again (header_of p) fits.header) (its_preface p fits.connections)

-- ---- a header is no preface

pub header_no_preface : (c : Contents) → preface_in (header_bytes c) ≡ None
unfolding preface_in
header_no_preface c = refl

pub no_header : (p : Preface) (c : Contents) → preface_bytes p ≡ header_bytes c → ⊥
no_header p c same = let eighth : ◌≡◌ {A = ℕ} 2 1 = ap (λ (l : List ℕ). get_or l 7 0) same in absurd cc

-- ---- bytes that are read are the encoding of what is read

are_behind : (a b : List ℕ) → AreBytes (a ++ b) → AreBytes b
are_behind a b are = subst AreBytes (drop_at a b (length a) refl) (bytes_dropped (length a) (a ++ b) are)

document_bytes : (c : Contents) → AreBytes (contents_bytes c) → AreBytes c.document
document_bytes c are =
    are_behind (to_be_bytes w32 (length c.document)) c.document
    (are_behind (text_bytes c.version) (text_bytes c.document)
    (are_behind (to_be_bytes w32 c.events_max) (text_bytes c.version ++ text_bytes c.document) are))

abbrev preface_by : Contents → ℕ × List ℕ → Option Preface
preface_by c n = Some (record { events_max = c.events_max; version = c.version; connections = n.0; opening = n.1 })

abbrev contents_by : ℕ → List ℕ → List ℕ → Contents
contents_by events_max version document = record { events_max = events_max; version = version; document = document }

header_only : (c : Contents) (p : Preface) → AreBytes c.document → prefaced c ≡ Some p → c ≡ header_of p
header_only c p are e =
    let step = bound (number_at w32 c.document) (preface_by c) p e in
    let split = number_only c.document step.value.0 step.value.1 are step.first in
    let same = got _ p step.then in
    ap (contents_by c.events_max c.version) split.is ∙ ap header_of same

rest_only : (bytes : List ℕ) (p : Preface) → AreBytes bytes → (contents_at bytes >>= prefaced) ≡ Some p → bytes ≡ contents_bytes (header_of p)
rest_only bytes p are e =
    let step = bound (contents_at bytes) prefaced p e in
    let its = contents_only bytes step.value are step.first in
    its.is ∙ ap contents_bytes (header_only step.value p (document_bytes step.value (subst AreBytes its.is are)) step.then)

pub only : (bytes : List ℕ) (p : Preface) → AreBytes bytes → preface_in bytes ≡ Some p → bytes ≡ preface_bytes p
unfolding preface_in
only bytes p are e = by (bytes_eq (take 8 bytes) preface_head) refl e
  where
    by : (b : Bool) → bytes_eq (take 8 bytes) preface_head ≡ b → cond b (contents_at (drop 8 bytes) >>= prefaced) None ≡ Some p → bytes ≡ preface_bytes p
    by false other e = absurd cc
    by true head e =
        let front : take 8 bytes ≡ preface_head = same_bytes (take 8 bytes) preface_head head in
        sym (take-append-drop 8 bytes)
        ∙ (ap (λ (x : List ℕ). x ++ drop 8 bytes) front
        ∙ ap (λ (x : List ℕ). preface_head ++ x) (rest_only (drop 8 bytes) p (bytes_dropped 8 bytes are) e))
