-- A byte that a text lacks, and that the changed text lacks too.
use Rattle.std.proofs.Common.{◌≡◌, ℕ, zero, suc, ◌-◌, Bool, true, false, not, ◌==◌, List, [], ◌∷◌, ◌++◌, refl, sym, ap, ◌∙◌, inl, inr, nat_eq, slice_index_or}
use Rattle.std.proofs.lemmas.Bool.{and_parts, and_from, cases_Bool}
use Rattle.std.proofs.lemmas.List.Folds.{list_all-append}
use Rattle.std.specs.List.{list_all, filter, flat_map}
use Rattle.er7_tree.specs.declared.path.Part.{Part}
use Rattle.er7_tree.specs.declared.path.Part.TheVariants.{Whole, Repetition, Component, Subcomponent}
use Rattle.er7_tree.specs.Delims.{Delims, lacks}
use Rattle.er7_tree.specs.Edit.{change_segment, put_in}
use Rattle.er7_tree.specs.Path.{levels, piece_in, segment_at}
use Rattle.er7_tree.specs.Pieces.{split, join, piece_at, put, put_after}
use Rattle.er7_tree.specs.Tree.{has_name}
use Rattle.er7_tree.proofs.Messages.{split_lacks, filter_lacks}

-- each text lacks the byte
abbrev pub all_lack : ℕ → List (List ℕ) → Bool
all_lack b texts = list_all (lacks b) texts

-- what f makes of a text that lacks the byte lacks it too
abbrev pub Keeps : ℕ → (List ℕ → List ℕ) → Type 0
Keeps b f = (text : List ℕ) → lacks b text ≡ true → lacks b (f text) ≡ true

pub lacks-append : (b : ℕ) (xs ys : List ℕ) → lacks b xs ≡ true → lacks b ys ≡ true → lacks b (xs ++ ys) ≡ true
lacks-append b xs ys first second = list_all-append (λ c. not (c == b)) xs ys ∙ and_from _ _ first second

pub lacks-join : (b separator : ℕ) (pieces : List (List ℕ)) → nat_eq separator b ≡ false → all_lack b pieces ≡ true → lacks b (join separator pieces) ≡ true
lacks-join b separator [] other all = refl
lacks-join b separator (piece ∷ []) other all = (and_parts _ _ all).0
lacks-join b separator (piece ∷ next ∷ pieces) other all =
    let parts = and_parts (lacks b piece) (all_lack b (next ∷ pieces)) all in
    lacks-append b piece (separator ∷ join separator (next ∷ pieces)) parts.0
    (and_from _ _ (ap not other) (lacks-join b separator (next ∷ pieces) other parts.1))

pub lacks-put_after : (b n : ℕ) (f : List ℕ → List ℕ) (pieces : List (List ℕ)) → Keeps b f → all_lack b pieces ≡ true → all_lack b (put_after n f pieces) ≡ true
lacks-put_after b zero f [] keeps all = and_from _ _ (keeps [] refl) refl
lacks-put_after b zero f (piece ∷ pieces) keeps all =
    let parts = and_parts (lacks b piece) (all_lack b pieces) all in and_from _ _ (keeps piece parts.0) parts.1
lacks-put_after b (suc n) f [] keeps all = lacks-put_after b n f [] keeps refl
lacks-put_after b (suc n) f (piece ∷ pieces) keeps all =
    let parts = and_parts (lacks b piece) (all_lack b pieces) all in and_from _ _ parts.0 (lacks-put_after b n f pieces keeps parts.1)

pub Keeps-put : (b separator n : ℕ) (f : List ℕ → List ℕ) → nat_eq separator b ≡ false → Keeps b f → Keeps b (put separator n f)
Keeps-put b separator n f other keeps text lack =
    lacks-join b separator (put_after (n - 1) f (split separator text)) other
    (lacks-put_after b (n - 1) f (split separator text) keeps (split_lacks b separator text lack))

-- the separators inside a field are another byte
pub record IsNoInner (d : Delims) (b : ℕ) : Type 0 where
  pub component : nat_eq d.component b ≡ false
  pub repetition : nat_eq d.repetition b ≡ false
  pub subcomponent : nat_eq d.subcomponent b ≡ false

-- each separator is another byte
abbrev pub are_others : ℕ → List (ℕ × ℕ) → Bool
are_others b places = list_all (λ place. not (nat_eq place.0 b)) places

pub others-levels : (d : Delims) (b : ℕ) (part : Part) → IsNoInner d b → are_others b (levels d part) ≡ true
others-levels d b Whole inner = refl
others-levels d b (Repetition r) inner = and_from _ _ (ap not inner.repetition) refl
others-levels d b (Component r c) inner = and_from _ _ (ap not inner.repetition) (and_from _ _ (ap not inner.component) refl)
others-levels d b (Subcomponent r c s) inner =
    and_from _ _ (ap not inner.repetition) (and_from _ _ (ap not inner.component) (and_from _ _ (ap not inner.subcomponent) refl))

not_true : (x : Bool) → not x ≡ true → x ≡ false
not_true true is = sym is
not_true false is = refl

pub Keeps-put_in : (b : ℕ) (places : List (ℕ × ℕ)) (piece : List ℕ) → are_others b places ≡ true → lacks b piece ≡ true → Keeps b (put_in places piece)
Keeps-put_in b [] piece others lack = λ text _. lack
Keeps-put_in b ((separator, n) ∷ places) piece others lack =
    let parts = and_parts (not (nat_eq separator b)) (are_others b places) others in
    Keeps-put b separator n (put_in places piece) (not_true (nat_eq separator b) parts.0) (Keeps-put_in b places piece parts.1 lack)

pub lacks-get : (b n : ℕ) (pieces : List (List ℕ)) → all_lack b pieces ≡ true → lacks b (slice_index_or pieces n []) ≡ true
lacks-get b n [] all = refl
lacks-get b zero (piece ∷ pieces) all = (and_parts (lacks b piece) (all_lack b pieces) all).0
lacks-get b (suc n) (piece ∷ pieces) all = lacks-get b n pieces (and_parts (lacks b piece) (all_lack b pieces) all).1

pub lacks-piece : (b separator n : ℕ) (text : List ℕ) → lacks b text ≡ true → lacks b (piece_at n (split separator text)) ≡ true
lacks-piece b separator n text lack = lacks-get b (n - 1) (split separator text) (split_lacks b separator text lack)

pub lacks-piece_in : (b : ℕ) (places : List (ℕ × ℕ)) (text : List ℕ) → lacks b text ≡ true → lacks b (piece_in places text) ≡ true
lacks-piece_in b [] text lack = lack
lacks-piece_in b ((separator, n) ∷ places) text lack = lacks-piece_in b places (piece_at n (split separator text)) (lacks-piece b separator n text lack)

pub lacks-segment_at : (b : ℕ) (name : List ℕ) (n : ℕ) (segments : List (List ℕ)) → all_lack b segments ≡ true → lacks b (segment_at name n segments) ≡ true
lacks-segment_at b name n segments all = lacks-get b (n - 1) (filter (has_name name) segments) (filter_lacks b (has_name name) segments all)

pub lacks-change_segment : (b : ℕ) (name : List ℕ) (n : ℕ) (f : List ℕ → List ℕ) (segments : List (List ℕ)) → Keeps b f → all_lack b segments ≡ true
    → all_lack b (change_segment name n f segments) ≡ true
lacks-change_segment b name n f [] keeps all = refl
lacks-change_segment b name n f (segment ∷ segments) keeps all =
    let parts = and_parts (lacks b segment) (all_lack b segments) all in
    elim (cases_Bool (has_name name segment)) [
      | inl named ↦ elim (cases_Bool (nat_eq n 1)) [
        | inl here ↦ rw (named, here) (and_from _ _ (keeps segment parts.0) parts.1)
        | inr later ↦ rw (named, later) (and_from _ _ parts.0 (lacks-change_segment b name (n - 1) f segments keeps parts.1))
      ]
      | inr other ↦ rw other (and_from _ _ parts.0 (lacks-change_segment b name n f segments keeps parts.1))
    ]

pub lacks-flat_map : (b : ℕ) (f : ℕ → List ℕ) (xs : List ℕ) → ((x : ℕ) → lacks b (f x) ≡ true) → lacks b (flat_map f xs) ≡ true
lacks-flat_map b f [] each = refl
lacks-flat_map b f (x ∷ xs) each = lacks-append b (f x) (flat_map f xs) (each x) (lacks-flat_map b f xs each)
