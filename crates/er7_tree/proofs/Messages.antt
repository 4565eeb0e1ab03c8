-- What reading gives is a message.
use Rattle.std.proofs.Common.{◌≡◌, ℕ, ◌+◌, ◌<◌, get_or, ◌≤◌, Bool, true, false, not, subst, List, [], ◌∷◌, length, drop, map, Option, Some, None, Ok, Err, refl, sym, ap, arith, nat_eq, nat_le, inl, inr}
use Rattle.std.proofs.lemmas.Bool.{cases_Bool, and_parts, and_from, leb-true}
use Rattle.std.specs.List.{list_all, onto_first, filter}
use Rattle.std.specs.Option.{ok_or}
use Rattle.er7_tree.specs.declared.refusal.Refusal.TheVariants.{NoHeader, BadDelimiters, TooManySegments}
use Rattle.er7_tree.specs.Delims.{Delims, delims_of, lacks}
use Rattle.er7_tree.specs.inner.Delims.{AreDelims}
use Rattle.er7_tree.specs.Pieces.{split, is_empty}
use Rattle.er7_tree.proofs.Declaring.{declares_good}
use Rattle.er7_tree.specs.Tree.{Tree, is_header, is_body, first_of, bad_name_place, unless_bad, checked_tree, tree_of, tree, segments_of, without_line_feed, without_line_feeds, ◌>>=◌}
use Rattle.er7_tree.specs.inner.Tree.{IsMessage}

-- no bad name was found
all_named : (d : Delims) (place : ℕ) (segments : List (List ℕ)) → bad_name_place place d segments ≡ None → list_all (is_body d) segments ≡ true
all_named d place [] none = refl
all_named d place (segment ∷ segments) none =
    elim (cases_Bool (is_body d segment)) [
      | inl good ↦ and_from _ _ good (all_named d (place + 1) segments (rw good at none))
      | inr bad ↦ let e : Some place ≡ None = rw bad at none in cc
    ]

unless_some : (t read : Tree) (bad : Option ℕ) → unless_bad t bad ≡ Ok read → bad ≡ None
unless_some t read None is = refl
unless_some t read (Some place) is = cc

unless_same : (t read : Tree) (bad : Option ℕ) → unless_bad t bad ≡ Ok read → t ≡ read
unless_same t read None is = cc
unless_same t read (Some place) is = cc

checked_parts : (t read : Tree) → checked_tree t ≡ Ok read → (length t.segments ≤ 4096) × (list_all (is_body t.delims) (drop 1 t.segments) ≡ true) × (t ≡ read)
checked_parts t read is =
    elim (cases_Bool (nat_le (length t.segments) 4096)) [
      | inl few ↦
          let unbad : unless_bad t (bad_name_place 2 t.delims (drop 1 t.segments)) ≡ Ok read = rw few at is in (
            leb-true _ _ few,
            all_named t.delims 2 (drop 1 t.segments) (unless_some t read _ unbad),
            unless_same t read _ unbad,
          )
      | inr many ↦ let e : Err TooManySegments ≡ Ok read = rw many at is in cc
    ]

-- segments without a carriage return, checked
checked_is : (t read : Tree) → is_header (first_of t.segments) ≡ true → delims_of (first_of t.segments) ≡ Some t.delims → list_all (lacks 13) t.segments ≡ true
    → checked_tree t ≡ Ok read → IsMessage read
checked_is t read header declared unbroken is =
    let parts = checked_parts t read is in
    let whole : IsMessage t = record { header = header; declared = declared; named = parts.1; few = parts.0; unbroken = unbroken } in
    subst IsMessage parts.2 whole

declared_is : (segments : List (List ℕ)) (found : Option Delims) (read : Tree) → is_header (first_of segments) ≡ true → delims_of (first_of segments) ≡ found → list_all (lacks 13) segments ≡ true
    → (ok_or found BadDelimiters >>= λ delims. checked_tree (record { delims = delims; segments = segments })) ≡ Ok read → IsMessage read
declared_is segments None read header found unbroken is = cc
declared_is segments (Some d) read header found unbroken is = checked_is (record { delims = d; segments = segments }) read header found unbroken is

pub tree_of_is : (segments : List (List ℕ)) (read : Tree) → list_all (lacks 13) segments ≡ true → tree_of segments ≡ Ok read → IsMessage read
tree_of_is segments read unbroken is =
    elim (cases_Bool (is_header (first_of segments))) [
      | inl header ↦ declared_is segments (delims_of (first_of segments)) read header refl unbroken (rw header at is)
      | inr none ↦ let e : Err NoHeader ≡ Ok read = rw none at is in cc
    ]

-- a byte that a text lacks, its pieces lack
onto_lacks : (b x : ℕ) (pieces : List (List ℕ)) → nat_eq x b ≡ false → list_all (lacks b) pieces ≡ true → list_all (lacks b) (onto_first x pieces) ≡ true
onto_lacks b x [] other all = rw other refl
onto_lacks b x (piece ∷ pieces) other all = rw other all

pub split_lacks : (b c : ℕ) (text : List ℕ) → lacks b text ≡ true → list_all (lacks b) (split c text) ≡ true
split_lacks b c [] all = refl
split_lacks b c (x ∷ text) all =
    let parts = and_parts _ _ all in
    let later = split_lacks b c text parts.1 in
    elim (cases_Bool (nat_eq x c)) [
      | inl here ↦ rw here later
      | inr not_here ↦ rw not_here (onto_lacks b x (split c text) (not_true (nat_eq x b) parts.0) later)
    ] where
      not_true : (t : Bool) → not t ≡ true → t ≡ false
      not_true true is = cc
      not_true false is = refl

-- pieces lack their separator
pub split_own : (c : ℕ) (text : List ℕ) → list_all (lacks c) (split c text) ≡ true
split_own c [] = refl
split_own c (x ∷ text) =
    elim (cases_Bool (nat_eq x c)) [
      | inl here ↦ rw here (split_own c text)
      | inr not_here ↦ rw not_here (onto_lacks c x (split c text) not_here (split_own c text))
    ]

line_feed_lacks : (b : ℕ) (piece : List ℕ) → lacks b piece ≡ true → lacks b (without_line_feed piece) ≡ true
line_feed_lacks b [] all = refl
line_feed_lacks b (x ∷ piece) all =
    elim (cases_Bool (nat_eq x 10)) [
      | inl here ↦ rw here (and_parts _ _ all).1
      | inr not_here ↦ rw not_here all
    ]

line_feeds_lack : (b : ℕ) (pieces : List (List ℕ)) → list_all (lacks b) pieces ≡ true → list_all (lacks b) (map without_line_feed pieces) ≡ true
line_feeds_lack b [] all = refl
line_feeds_lack b (piece ∷ pieces) all =
    let parts = and_parts _ _ all in and_from _ _ (line_feed_lacks b piece parts.0) (line_feeds_lack b pieces parts.1)

pub filter_lacks : (b : ℕ) (test : List ℕ → Bool) (pieces : List (List ℕ)) → list_all (lacks b) pieces ≡ true → list_all (lacks b) (filter test pieces) ≡ true
filter_lacks b test [] all = refl
filter_lacks b test (piece ∷ pieces) all =
    let parts = and_parts _ _ all in
    let later = filter_lacks b test pieces parts.1 in
    elim (cases_Bool (test piece)) [
      | inl stays ↦ rw stays (and_from _ _ parts.0 later)
      | inr goes ↦ rw goes later
    ]

feeds_lack : (b : ℕ) (pieces : List (List ℕ)) → list_all (lacks b) pieces ≡ true → list_all (lacks b) (filter (λ piece. not (is_empty piece)) (without_line_feeds pieces)) ≡ true
feeds_lack b [] all = refl
feeds_lack b (piece ∷ pieces) all =
    let parts = and_parts _ _ all in
    filter_lacks b (λ piece. not (is_empty piece)) (piece ∷ map without_line_feed pieces) (and_from _ _ parts.0 (line_feeds_lack b pieces parts.1))

-- the segments of a text hold no carriage return, and no byte that the text lacks
pub segments_own : (text : List ℕ) → list_all (lacks 13) (segments_of text) ≡ true
segments_own text = feeds_lack 13 (split 13 text) (split_own 13 text)

pub segments_lack : (b : ℕ) (text : List ℕ) → lacks b text ≡ true → list_all (lacks b) (segments_of text) ≡ true
segments_lack b text all = feeds_lack b (split 13 text) (split_lacks b 13 text all)

-- what is read is a message
pub tree_is : (text : List ℕ) (read : Tree) → tree text ≡ Ok read → IsMessage read
tree_is text read is = tree_of_is (segments_of text) read (segments_own text) is

-- the header of a message is there
pub some_first : (segments : List (List ℕ)) → is_header (first_of segments) ≡ true → 0 < length segments
some_first [] header = cc
some_first (first ∷ others) header = omega arith

pub first_gotten : (segments : List (List ℕ)) (d : List ℕ) → is_header (first_of segments) ≡ true → first_of segments ≡ get_or segments 0 d
first_gotten [] d header = cc
first_gotten (first ∷ others) d header = refl

pub delims_are : (t : Tree) → IsMessage t → AreDelims t.delims
delims_are t whole = declares_good (first_of t.segments) t.delims whole.declared

-- and its segments are those of the text
segments_same : (segments : List (List ℕ)) (found : Option Delims) (read : Tree)
    → (ok_or found BadDelimiters >>= λ delims. checked_tree (record { delims = delims; segments = segments })) ≡ Ok read → read.segments ≡ segments
segments_same segments None read is = cc
segments_same segments (Some d) read is = sym (ap (λ (t : Tree). t.segments) (checked_parts (record { delims = d; segments = segments }) read is).2)

tree_of_segments : (segments : List (List ℕ)) (read : Tree) → tree_of segments ≡ Ok read → read.segments ≡ segments
tree_of_segments segments read is =
    elim (cases_Bool (is_header (first_of segments))) [
      | inl header ↦ segments_same segments (delims_of (first_of segments)) read (rw header at is)
      | inr none ↦ let e : Err NoHeader ≡ Ok read = rw none at is in cc
    ]

pub tree_segments : (text : List ℕ) (read : Tree) → tree text ≡ Ok read → read.segments ≡ segments_of text
tree_segments text read is = tree_of_segments (segments_of text) read is
