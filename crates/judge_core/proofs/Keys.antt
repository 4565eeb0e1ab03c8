-- Keys tell messages apart, since no part of a header holds the byte that stands between the parts of a key.
use Rattle.std.proofs.Common.{◌≡◌, ℕ, true, not, ◌==◌, List, [], ◌∷◌, ◌++◌, Option, None, Some, Ok, Err, refl, sym, subst, ◌∙◌, ap, eq-eqb}
use Rattle.std.specs.Prelude.{◌↔◌, IsTrue, is_none}
use Rattle.std.specs.Option.{option_map_or}
use Rattle.std.proofs.lemmas.List.{append_assoc}
use Rattle.std.proofs.lemmas.Bool.{and_parts}
use Rattle.er7_tree.specs.Delims.{lacks}
use Rattle.er7_tree.specs.Path.{header_place}
use Rattle.er7_tree.specs.Tree.{Tree, tree}
use Rattle.er7_tree.proofs.Lacking.{raw_lacks}
use Rattle.er7_tree.proofs.Messages.{tree_is}
use Rattle.hl7_head.specs.Header.{Msh, header, header_of, header_where, field}
use Rattle.judge_core.specs.Judging.{key_by, key_of, is_unreadable}

-- bytes that lack a byte don't begin with it
begins-other : (b c : ℕ) (cs : List ℕ) → b ≡ c → lacks b (c ∷ cs) ≡ true → ⊥
begins-other b c cs same bare =
    let other : not (c == b) ≡ true = (and_parts (not (c == b)) (lacks b cs) bare).0 in
    let equal : (c == b) ≡ true = eq-eqb c b (sym same) in
    absurd cc

-- parts that lack the byte behind them are told apart by it
parts-equal : (b : ℕ) (xs ys rest rest2 : List ℕ) → lacks b xs ≡ true → lacks b ys ≡ true
    → xs ++ b ∷ rest ≡ ys ++ b ∷ rest2 → (xs ≡ ys) × (rest ≡ rest2)
parts-equal b [] [] rest rest2 bare bare2 same = (refl, cc)
parts-equal b [] (y ∷ ys) rest rest2 bare bare2 same = absurd (begins-other b y ys (cc) bare2)
parts-equal b (x ∷ xs) [] rest rest2 bare bare2 same = absurd (begins-other b x xs (cc) bare)
parts-equal b (x ∷ xs) (y ∷ ys) rest rest2 bare bare2 same =
    let tails : (xs ≡ ys) × (rest ≡ rest2) =
    parts-equal b xs ys rest rest2 (and_parts (not (x == b)) (lacks b xs) bare).1 (and_parts (not (y == b)) (lacks b ys) bare2).1 cc in
    let heads : x ≡ y = cc in
    (cc, tails.1)

-- no field of a header holds the byte that ends segments
field-lacks : (text : List ℕ) (t : Tree) (n : ℕ) → tree text ≡ Ok t → lacks 13 (field t n) ≡ true
field-lacks text t n read = let whole = tree_is text t read in raw_lacks 13 t (header_place n None) whole whole.unbroken

-- the two fields before a key's last part
pub record EndsWithin (h : Msh) : Type 0 where
  pub application : lacks 13 h.sending_application ≡ true
  pub facility : lacks 13 h.sending_facility ≡ true

ends-within : (text : List ℕ) (h : Msh) → header_of text ≡ Some h → EndsWithin h
ends-within text h is =
    elim (tree text) as (λ r. tree text ≡ r → header_where r ≡ Some h → EndsWithin h) [
      | Err refusal ↦ λ read is. absurd cc
      | Ok t ↦ λ read is.
          let same : header t ≡ h = cc in
          subst EndsWithin same (record { application = field-lacks text t 3 read; facility = field-lacks text t 4 read })
    ] refl is

-- equal parts of keys
abbrev SameParts : ℕ → Msh → ℕ → Msh → Type 0
SameParts channel h channel2 h2 =
    (channel ≡ channel2) × (h.sending_application ≡ h2.sending_application) × (h.sending_facility ≡ h2.sending_facility) × (h.control_id ≡ h2.control_id)

-- the key with its parts one behind the other
key-grouped : (channel : ℕ) (h : Msh) → key_by channel h ≡ channel ∷ (h.sending_application ++ 13 ∷ (h.sending_facility ++ 13 ∷ h.control_id))
key-grouped channel h = ap (λ bs. channel ∷ bs) (append_assoc h.sending_application (13 ∷ h.sending_facility) (13 ∷ h.control_id))

-- equal keys have equal parts
parts-of-key : (channel channel2 : ℕ) (h h2 : Msh) → EndsWithin h → EndsWithin h2 → key_by channel h ≡ key_by channel2 h2 → SameParts channel h channel2 h2
parts-of-key channel channel2 h h2 ends ends2 same =
    let grouped : channel ∷ (h.sending_application ++ 13 ∷ (h.sending_facility ++ 13 ∷ h.control_id)) ≡ channel2 ∷ (h2.sending_application ++ 13 ∷ (h2.sending_facility ++ 13 ∷ h2.control_id)) =
    sym (key-grouped channel h) ∙ same ∙ key-grouped channel2 h2 in
    let first : (h.sending_application ≡ h2.sending_application) × (h.sending_facility ++ 13 ∷ h.control_id ≡ h2.sending_facility ++ 13 ∷ h2.control_id) =
    parts-equal 13 h.sending_application h2.sending_application _ _ ends.application ends2.application cc in
    let second : (h.sending_facility ≡ h2.sending_facility) × (h.control_id ≡ h2.control_id) =
    parts-equal 13 h.sending_facility h2.sending_facility _ _ ends.facility ends2.facility first.1 in
    let place : channel ≡ channel2 = cc in
    (place, first.0, second.0, second.1)

-- equal parts make equal keys
key-of-parts : (channel channel2 : ℕ) (h h2 : Msh) → SameParts channel h channel2 h2 → key_by channel h ≡ key_by channel2 h2
key-of-parts channel channel2 h h2 same = rw (same.0, same.1, same.2, same.3) refl

-- the key of a text with this header
key-where : (channel : ℕ) (text : List ℕ) (h : Msh) → header_of text ≡ Some h → key_of channel text ≡ key_by channel h
unfolding key_of
key-where channel text h is = ap (λ o. option_map_or (key_by channel) o []) is

-- two messages have one key exactly where channel, sender and control id are equal
pub key-told : (channel channel2 : ℕ) (text text2 : List ℕ) (h h2 : Msh) → header_of text ≡ Some h → header_of text2 ≡ Some h2
    → (key_of channel text ≡ key_of channel2 text2) ↔ SameParts channel h channel2 h2
key-told channel channel2 text text2 h h2 is is2 =
    let key = key-where channel text h is in
    let key2 = key-where channel2 text2 h2 is2 in (
      λ same. parts-of-key channel channel2 h h2 (ends-within text h is) (ends-within text2 h2 is2) (sym key ∙ same ∙ key2),
      λ same. key ∙ key-of-parts channel channel2 h h2 same ∙ sym key2,
    )

key-empty-where : (channel : ℕ) (o : Option Msh) → (option_map_or (key_by channel) o [] ≡ []) ↔ IsTrue (is_none o)
key-empty-where channel None = (λ e. refl, λ e. refl)
key-empty-where channel (Some h) = (λ e. absurd cc, λ e. absurd cc)

-- only a text that is no message has the empty key
pub key-empty : (channel : ℕ) (text : List ℕ) → (key_of channel text ≡ []) ↔ IsTrue (is_unreadable text)
unfolding key_of
key-empty channel text = key-empty-where channel (header_of text)
