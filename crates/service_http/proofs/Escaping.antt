-- What is escaped can't leave the place in a document where it is.
use Rattle.std.proofs.Common.{◌≡◌, ◌==◌, ◌∙◌, ◌++◌, ℕ, Bool, List, [], ◌∷◌, Some, inl, inr, false, true, ap, nat_lt, if◌then◌else◌, refl}
use Rattle.std.specs.List.{list_all, flat_map}
use Rattle.std.proofs.lemmas.Bool.Decides.{eqb_tells}
use Rattle.std.proofs.lemmas.List.{append_assoc}
use Rattle.std.proofs.lemmas.List.Folds.{list_all-append}
use Rattle.service_http.specs.inner.Escape.{after_string, html_byte, html_text, is_inert, json_byte}

-- a byte as HTML has it has no bracket and no quotation mark
byte_is_inert : (b : ℕ) → list_all is_inert (html_byte b) ≡ true
byte_is_inert b = elim (eqb_tells b 60) [
  | inl v ↦ rw v.0 refl
  | inr v60 ↦ elim (eqb_tells b 62) [
    | inl v ↦ rw (v60.0, v.0) refl
    | inr v62 ↦ elim (eqb_tells b 38) [
      | inl v ↦ rw (v60.0, v62.0, v.0) refl
      | inr v38 ↦ elim (eqb_tells b 34) [
        | inl v ↦ rw (v60.0, v62.0, v38.0, v.0) refl
        | inr v34 ↦ elim (eqb_tells b 39) [
          | inl v ↦ rw (v60.0, v62.0, v38.0, v34.0, v.0) refl
          | inr v39 ↦ rw (v60.0, v62.0, v38.0, v34.0, v39.0) (rw (v60.0, v62.0, v34.0, v39.0) refl)
        ]
      ]
    ]
  ]
]

-- no text from outside begins or ends a tag or ends an attribute's value
pub text_is_inert : (text : List ℕ) → list_all is_inert (html_text text) ≡ true
text_is_inert [] = refl
text_is_inert (b ∷ bytes) = rw (list_all-append is_inert (html_byte b) (flat_map html_byte bytes), byte_is_inert b, text_is_inert bytes) refl

-- a byte other than a quotation mark and a backslash, or the question mark in its place, ends no string
plain_byte : (control : Bool) (b : ℕ) (more : List ℕ) → (b == 34) ≡ false → (b == 92) ≡ false
    → after_string false ((if control then 63 ∷ [] else b ∷ []) ++ more) ≡ after_string false more
plain_byte true b more quotation backslash = refl
plain_byte false b more quotation backslash = rw (quotation, backslash) refl

-- a byte as JSON has it ends no string
byte_ends_nothing : (b : ℕ) (more : List ℕ) → after_string false (json_byte b ++ more) ≡ after_string false more
byte_ends_nothing b more = elim (eqb_tells b 34) [
  | inl v ↦ rw v.0 refl
  | inr v34 ↦ elim (eqb_tells b 92) [
    | inl v ↦ rw (v34.0, v.0) refl
    | inr v92 ↦ rw (v34.0, v92.0) (plain_byte (nat_lt b 32) b more v34.0 v92.0)
  ]
]

-- a string that is read up to its quotation mark is the text, whatever follows
pub string_ends : (text rest : List ℕ) → after_string false (flat_map json_byte text ++ 34 ∷ rest) ≡ Some rest
string_ends [] rest = refl
string_ends (b ∷ bytes) rest =
    ap (after_string false) (append_assoc (json_byte b) (flat_map json_byte bytes) (34 ∷ rest))
    ∙ (byte_ends_nothing b (flat_map json_byte bytes ++ 34 ∷ rest) ∙ string_ends bytes rest)
