-- What holds of each byte of a text holds of each byte of its header.
use Rattle.std.proofs.Common.{◌≡◌, ℕ, ◌-◌, true, not, ◌&&◌, codes, List, [], ◌∷◌, length, map, Some, None, Result, Ok, Err, refl, subst, nat_eq, nat_le, inl, inr, ⊎_elim, All}
use Rattle.std.specs.List.{onto_first, before_first}
use Rattle.std.proofs.lemmas.Bool.{cases_Bool, cases_lt}
use Rattle.std.proofs.lemmas.List.{get_or_past}
use Rattle.std.proofs.lemmas.List.Elements.{All-nil, All-cons, All-head, All-same, All-tail, All-take, All-filter, All-get_or}
use Rattle.er7_tree.specs.declared.refusal.Refusal.{Refusal}
use Rattle.er7_tree.specs.Delims.{Delims, delims_of, declared_by, are_delimiters}
use Rattle.er7_tree.specs.Path.{segment_at, field_at, field_place, part_of}
use Rattle.er7_tree.specs.declared.path.Part.TheVariants.{Component}
use Rattle.er7_tree.specs.Pieces.{split, piece_at, is_empty}
use Rattle.er7_tree.specs.Tree.{Tree, first_of, is_header, tree, segments_of, without_line_feed, without_line_feeds}
use Rattle.er7_tree.specs.inner.Tree.{IsMessage}
use Rattle.er7_tree.proofs.Messages.{tree_is, tree_segments}
use Rattle.hl7_head.specs.Header.{Msh, header, header_of, header_where}

module _ (P : ℕ → Type 0) where
  onto_all : (b : ℕ) (pieces : List (List ℕ)) → P b → All (All P) pieces → All (All P) (onto_first b pieces)
  onto_all b [] here all = All-cons (All P) (b ∷ []) [] (All-cons P b [] here (All-nil P)) (All-nil (All P))
  onto_all b (piece ∷ pieces) here all =
      All-cons (All P) (b ∷ piece) pieces (All-cons P b piece here (All-head (All P) piece pieces all)) (All-tail (All P) piece pieces all)

  pub split_all : (separator : ℕ) (text : List ℕ) → All P text → All (All P) (split separator text)
  split_all separator [] all = All-cons (All P) [] [] (All-nil P) (All-nil (All P))
  split_all separator (b ∷ bs) all =
      let later = split_all separator bs (All-tail P b bs all) in
      elim (cases_Bool (nat_eq b separator)) [
        | inl here ↦ rw here (All-cons (All P) [] (split separator bs) (All-nil P) later)
        | inr other ↦ rw other (onto_all b (split separator bs) (All-head P b bs all) later)
      ]

  feed_all : (piece : List ℕ) → All P piece → All P (without_line_feed piece)
  feed_all [] all = all
  feed_all (b ∷ bs) all =
      elim (cases_Bool (nat_eq b 10)) [
        | inl feed ↦ rw feed (All-tail P b bs all)
        | inr other ↦ rw other all
      ]

  feeds_all : (pieces : List (List ℕ)) → All (All P) pieces → All (All P) (map without_line_feed pieces)
  feeds_all [] all = all
  feeds_all (piece ∷ pieces) all =
      All-cons (All P) (without_line_feed piece) (map without_line_feed pieces) (feed_all piece (All-head (All P) piece pieces all)) (feeds_all pieces (All-tail (All P) piece pieces all))

  all_feeds : (pieces : List (List ℕ)) → All (All P) pieces → All (All P) (without_line_feeds pieces)
  all_feeds [] all = all
  all_feeds (first ∷ others) all = All-cons (All P) first (map without_line_feed others) (All-head (All P) first others all) (feeds_all others (All-tail (All P) first others all))

  pub segments_all : (text : List ℕ) → All P text → All (All P) (segments_of text)
  segments_all text all = All-filter (λ piece. not (is_empty piece)) (All P) (without_line_feeds (split 13 text)) (all_feeds (split 13 text) (split_all 13 text all))

  pub piece_all : (n : ℕ) (pieces : List (List ℕ)) → All (All P) pieces → All P (piece_at n pieces)
  piece_all n pieces all =
      ⊎_elim (λ short. All-get_or (All P) pieces (n - 1) [] short all)
      (λ past. rw (get_or_past pieces (n - 1) [] past) (All-nil P))
      (cases_lt (n - 1) (length pieces))

  -- what holds of the bytes of MSH-1 and MSH-2 holds of the delimiters
  declared_all : (field : ℕ) (characters : List ℕ) (d : Delims) → P field → All P characters → declared_by field characters ≡ Some d → P d.field × P d.component
  declared_all field [] d here all is = cc
  declared_all field (c ∷ []) d here all is = cc
  declared_all field (c ∷ r ∷ []) d here all is = cc
  declared_all field (c ∷ r ∷ e ∷ []) d here all is = cc
  declared_all field (c ∷ r ∷ e ∷ s ∷ extra) d here all is =
      elim (cases_Bool (nat_le (length extra) 1 && are_delimiters (field ∷ c ∷ r ∷ e ∷ s ∷ extra))) [
        | inl good ↦ let read : Delims = record { field = field; component = c; repetition = r; escape = e; subcomponent = s } in
            let same : Some read ≡ Some d = rw good at is in
            let one : read ≡ d = cc in
            let Q : Delims → Type 0 = λ x. P x.field × P x.component in
            subst Q one (here, All-head P c (r ∷ e ∷ s ∷ extra) all)
        | inr bad ↦ let no : None ≡ Some d = rw bad at is in cc
      ]

  delims_all : (segment : List ℕ) (d : Delims) → All P segment → delims_of segment ≡ Some d → P d.field × P d.component
  delims_all [] d all is = cc
  delims_all (a ∷ []) d all is = cc
  delims_all (a ∷ b ∷ []) d all is = cc
  delims_all (a ∷ b ∷ c ∷ []) d all is = cc
  delims_all (a ∷ b ∷ c ∷ field ∷ rest) d all is =
      let later = All-tail P c (field ∷ rest) (All-tail P b (c ∷ field ∷ rest) (All-tail P a (b ∷ c ∷ field ∷ rest) all)) in
      let characters : All P (before_first (λ b. nat_eq b field) rest) = All-take P _ rest (All-tail P field rest later) in
      declared_all field (before_first (λ b. nat_eq b field) rest) d (All-head P field rest later) characters is

  first_all : (segments : List (List ℕ)) → All (All P) segments → All P (first_of segments)
  first_all [] all = All-nil P
  first_all (first ∷ others) all = All-head (All P) first others all

  -- a field of a segment, and what is a part of one
  field_all : (d : Delims) (f : ℕ) (segment : List ℕ) → P d.field → All P segment → All P (field_at d f segment)
  field_all d f segment here all =
      let pieces = piece_all (field_place segment f) (split d.field segment) (split_all d.field segment all) in
      elim (cases_Bool (is_header segment && nat_eq f 1)) [
        | inl first ↦ rw first (All-cons P d.field [] here (All-nil P))
        | inr other ↦ rw other pieces
      ]

  component_all : (d : Delims) (c : ℕ) (text : List ℕ) → All P text → All P (part_of d (Component 1 c) text)
  component_all d c text all =
      let repetition = piece_all 1 (split d.repetition text) (split_all d.repetition text all) in
      piece_all c (split d.component (piece_at 1 (split d.repetition text))) (split_all d.component (piece_at 1 (split d.repetition text)) repetition)

  -- what holds of each byte of a message holds of each byte of what its acknowledgment takes from it
  pub record HeaderAll (h : Msh) : Type 0 where
    pub field : P h.delims.field
    pub component : P h.delims.component
    pub encoding_characters : All P h.encoding_characters
    pub sending_application : All P h.sending_application
    pub sending_facility : All P h.sending_facility
    pub receiving_application : All P h.receiving_application
    pub receiving_facility : All P h.receiving_facility
    pub trigger_event : All P h.trigger_event
    pub control_id : All P h.control_id
    pub processing_id : All P h.processing_id
    pub version_id : All P h.version_id

  -- the header segment, found by its name, is the first
  header_segment_all : (segments : List (List ℕ)) → is_header (first_of segments) ≡ true → All P (first_of segments) → All P (segment_at (codes "MSH") 1 segments)
  header_segment_all [] is all = All-nil P
  header_segment_all (first ∷ others) is all = rw is all

  header_all : (t : Tree) → P t.delims.field → P t.delims.component → All P (segment_at (codes "MSH") 1 t.segments) → HeaderAll (header t)
  header_all t field component segment =
      let field_of = λ (f : ℕ). field_all t.delims f (segment_at (codes "MSH") 1 t.segments) field segment in
      record {
        field = field;
        component = component;
        encoding_characters = field_of 2;
        sending_application = field_of 3;
        sending_facility = field_of 4;
        receiving_application = field_of 5;
        receiving_facility = field_of 6;
        trigger_event = component_all t.delims 2 (field_at t.delims 9 (segment_at (codes "MSH") 1 t.segments)) (field_of 9);
        control_id = field_of 10;
        processing_id = field_of 11;
        version_id = field_of 12;
      }

  -- what holds of each byte of the header segment holds of each byte of the header
  pub message_all : (t : Tree) → IsMessage t → All P (first_of t.segments) → HeaderAll (header t)
  message_all t message all =
      let delims = delims_all (first_of t.segments) t.delims all message.declared in
      header_all t delims.0 delims.1 (header_segment_all t.segments message.header all)

  text_all : (text : List ℕ) (t : Tree) → tree text ≡ Ok t → All P text → HeaderAll (header t)
  text_all text t is all =
      let segments = All-same (All P) t.segments (segments_of text) (tree_segments text t is) (segments_all text all) in
      message_all t (tree_is text t is) (first_all t.segments segments)

  header_of_all : (read : Result Tree Refusal) (text : List ℕ) (h : Msh) → tree text ≡ read → header_where read ≡ Some h → All P text → HeaderAll h
  header_of_all (Ok t) text h is where_read all = let same : header t ≡ h = cc in subst HeaderAll same (text_all text t is all)
  header_of_all (Err e) text h is where_read all = cc

  pub head_all : (text : List ℕ) (h : Msh) → header_of text ≡ Some h → All P text → HeaderAll h
  head_all text h is all = header_of_all (tree text) text h refl is all
