-- Printing a message and reading it again.
use Rattle.std.proofs.Common.{◌≡◌, ℕ, ◌+◌, Bool, true, false, not, ◌&&◌, ◌||◌, List, [], ◌∷◌, ◌++◌, length, drop, map, None, Ok, refl, ap, ◌∙◌, nat_eq, nat_le, append_assoc}
use Rattle.std.proofs.lemmas.Bool.{false≢true, and_parts, le-leb, ne_eqb}
use Rattle.std.specs.Char.{is_ascii_uppercase, is_ascii_digit}
use Rattle.std.specs.List.{list_all, filter}
use Rattle.er7_tree.specs.Delims.{Delims, lacks}
use Rattle.er7_tree.specs.Pieces.{split, is_empty}
use Rattle.er7_tree.specs.Tree.{Tree, is_name, is_named, ends_by, is_header, is_body, first_of, bad_name_place, tree_of, tree, segments_of, without_line_feed, without_line_feeds, written, text_of}
use Rattle.er7_tree.specs.inner.Tree.{IsMessage}
use Rattle.er7_tree.proofs.Segmenting.{segments_behind}

-- a segment before a carriage return is the first piece
split_ended : (segment rest : List ℕ) → lacks 13 segment ≡ true → split 13 (segment ++ 13 ∷ rest) ≡ segment ∷ split 13 rest
split_ended [] rest bare = refl
split_ended (b ∷ segment) rest bare =
    let parts = and_parts _ _ bare in
    let other : nat_eq b 13 ≡ false = not_true (nat_eq b 13) parts.0 in
    let later = split_ended segment rest parts.1 in
    rw (other, later) refl where
      not_true : (t : Bool) → not t ≡ true → t ≡ false
      not_true true is = cc
      not_true false is = refl

-- a segment after the header begins with a capital letter
body_begins : (d : Delims) (segment : List ℕ) (pieces : List (List ℕ)) → is_body d segment ≡ true
    → filter (λ piece. not (is_empty piece)) (map without_line_feed (segment ∷ pieces)) ≡ segment ∷ filter (λ piece. not (is_empty piece)) (map without_line_feed pieces)
body_begins d [] pieces body = cc
body_begins d (a ∷ []) pieces body = cc
body_begins d (a ∷ b ∷ []) pieces body = cc
body_begins d (a ∷ b ∷ c ∷ rest) pieces body =
    let named = and_parts (is_named d (a ∷ b ∷ c ∷ rest)) (not (is_header (a ∷ b ∷ c ∷ rest))) body in
    let name = and_parts (is_name (a ∷ b ∷ c ∷ [])) (ends_by d.field rest) named.0 in
    let front = and_parts (is_ascii_uppercase a && (is_ascii_uppercase b || is_ascii_digit b)) (is_ascii_uppercase c || is_ascii_digit c) name.0 in
    let capital = and_parts (is_ascii_uppercase a) (is_ascii_uppercase b || is_ascii_digit b) front.0 in
    let other : nat_eq a 10 ≡ false = ne_eqb a 10 (λ feed. false≢true (rw feed at capital.0)) in
    rw other refl

behind_written : (d : Delims) (segments : List (List ℕ)) → list_all (is_body d) segments ≡ true → list_all (lacks 13) segments ≡ true → segments_behind (written segments) ≡ segments
behind_written d [] named unbroken = refl
behind_written d (segment ∷ segments) named unbroken =
    let good = and_parts _ _ named in
    let bare = and_parts _ _ unbroken in
    let cut : split 13 (written (segment ∷ segments)) ≡ segment ∷ split 13 (written segments) =
    ap (split 13) (append_assoc segment (13 ∷ []) (written segments)) ∙ split_ended segment (written segments) bare.0 in
    ap (λ pieces. filter (λ piece. not (is_empty piece)) (map without_line_feed pieces)) cut
    ∙ body_begins d segment (split 13 (written segments)) good.0
    ∙ ap (λ segments. segment ∷ segments) (behind_written d segments good.1 bare.1)

-- a header isn't empty
header_first : (segment : List ℕ) (pieces : List (List ℕ)) → is_header segment ≡ true
    → filter (λ piece. not (is_empty piece)) (without_line_feeds (segment ∷ pieces)) ≡ segment ∷ filter (λ piece. not (is_empty piece)) (map without_line_feed pieces)
header_first [] pieces header = cc
header_first (b ∷ segment) pieces header = refl

written_segments : (d : Delims) (segments : List (List ℕ)) → is_header (first_of segments) ≡ true → list_all (is_body d) (drop 1 segments) ≡ true → list_all (lacks 13) segments ≡ true
    → segments_of (written segments) ≡ segments
written_segments d [] header named unbroken = refl
written_segments d (first ∷ segments) header named unbroken =
    let bare = and_parts _ _ unbroken in
    let cut : split 13 (written (first ∷ segments)) ≡ first ∷ split 13 (written segments) =
    ap (split 13) (append_assoc first (13 ∷ []) (written segments)) ∙ split_ended first (written segments) bare.0 in
    ap (λ pieces. filter (λ piece. not (is_empty piece)) (without_line_feeds pieces)) cut
    ∙ header_first first (split 13 (written segments)) header
    ∙ ap (λ segments. first ∷ segments) (behind_written d segments named bare.1)

none_bad : (d : Delims) (place : ℕ) (segments : List (List ℕ)) → list_all (is_body d) segments ≡ true → bad_name_place place d segments ≡ None
none_bad d place [] named = refl
none_bad d place (segment ∷ segments) named =
    let good = and_parts (is_body d segment) (list_all (is_body d) segments) named in rw good.0 (none_bad d (place + 1) segments good.1)

-- the segments of a message are read as that message
message_read : (t : Tree) → IsMessage t → tree_of t.segments ≡ Ok t
message_read t whole =
    let few : nat_le (length t.segments) 4096 ≡ true = le-leb _ _ whole.few in
    let unbad = none_bad t.delims 2 (drop 1 t.segments) whole.named in
    rw (whole.header, whole.declared, few, unbad) refl

pub reads_again : (t : Tree) → IsMessage t → tree (text_of t) ≡ Ok t
reads_again t whole = ap tree_of (written_segments t.delims t.segments whole.header whole.named whole.unbroken) ∙ message_read t whole
