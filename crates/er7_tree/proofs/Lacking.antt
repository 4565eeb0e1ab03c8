-- Bytes that a message lacks.
use Rattle.std.proofs.Common.{◌≡◌, ◌≢◌, ℕ, zero, suc, ◌-◌, true, false, not, ◌&&◌, List, [], ◌∷◌, ◌++◌, get_or, refl, sym, ◌∙◌, nat_eq, inl, inr}
use Rattle.std.proofs.lemmas.Bool.{cases_Bool, and_parts, and_from, ne_eqb}
use Rattle.std.proofs.lemmas.List.Folds.{list_all-append}
use Rattle.std.specs.List.{list_all, filter}
use Rattle.er7_tree.specs.declared.path.Part.{Part}
use Rattle.er7_tree.specs.declared.path.Part.TheVariants.{Whole, Repetition, Component, Subcomponent}
use Rattle.er7_tree.specs.Delims.{Delims, lacks}
use Rattle.er7_tree.specs.Path.{Place, raw, part_of, field_at, field_place, segment_at}
use Rattle.er7_tree.specs.Pieces.{split, piece_at}
use Rattle.er7_tree.specs.Tree.{Tree, is_header, has_name, first_of, written}
use Rattle.er7_tree.specs.inner.Tree.{IsMessage}
use Rattle.er7_tree.proofs.Declaring.{declared_field}
use Rattle.er7_tree.proofs.Messages.{split_lacks, filter_lacks}

one_lacks : (b : ℕ) (pieces : List (List ℕ)) (k : ℕ) → list_all (lacks b) pieces ≡ true → lacks b (get_or pieces k []) ≡ true
one_lacks b [] k all = refl
one_lacks b (piece ∷ pieces) zero all = (and_parts (lacks b piece) (list_all (lacks b) pieces) all).0
one_lacks b (piece ∷ pieces) (suc k) all = one_lacks b pieces k (and_parts (lacks b piece) (list_all (lacks b) pieces) all).1

piece_lacks : (b separator n : ℕ) (text : List ℕ) → lacks b text ≡ true → lacks b (piece_at n (split separator text)) ≡ true
piece_lacks b separator n text all = one_lacks b (split separator text) (n - 1) (split_lacks b separator text all)

part_lacks : (b : ℕ) (d : Delims) (part : Part) (field : List ℕ) → lacks b field ≡ true → lacks b (part_of d part field) ≡ true
part_lacks b d Whole field all = all
part_lacks b d (Repetition r) field all = piece_lacks b d.repetition r field all
part_lacks b d (Component r c) field all = piece_lacks b d.component c _ (piece_lacks b d.repetition r field all)
part_lacks b d (Subcomponent r c s) field all =
    piece_lacks b d.subcomponent s _ (piece_lacks b d.component c _ (piece_lacks b d.repetition r field all))

-- the field separator is a byte of the header
separator_lacks : (b : ℕ) (t : Tree) → IsMessage t → list_all (lacks b) t.segments ≡ true → lacks b (t.delims.field ∷ []) ≡ true
separator_lacks b t whole all = declared_field b (first_of t.segments) t.delims whole.declared (first_lacks t.segments all) where
  first_lacks : (segments : List (List ℕ)) → list_all (lacks b) segments ≡ true → lacks b (first_of segments) ≡ true
  first_lacks [] all = refl
  first_lacks (first ∷ segments) all = (and_parts (lacks b first) (list_all (lacks b) segments) all).0

pub raw_lacks : (b : ℕ) (t : Tree) (p : Place) → IsMessage t → list_all (lacks b) t.segments ≡ true → lacks b (raw t p) ≡ true
raw_lacks b t p whole all =
    let segment = segment_at p.segment p.occurrence t.segments in
    let bare : lacks b segment ≡ true = one_lacks b (filter (has_name p.segment) t.segments) (p.occurrence - 1) (filter_lacks b (has_name p.segment) t.segments all) in
    let field : lacks b (field_at t.delims p.field segment) ≡ true =
    elim (cases_Bool (is_header segment && nat_eq p.field 1)) [
      | inl separator ↦ rw separator (separator_lacks b t whole all)
      | inr other ↦ rw other (piece_lacks b t.delims.field (field_place segment p.field) segment bare)
    ] in
    part_lacks b t.delims p.part (field_at t.delims p.field segment) field

pub written_lacks : (b : ℕ) (segments : List (List ℕ)) → b ≢ 13 → list_all (lacks b) segments ≡ true → lacks b (written segments) ≡ true
written_lacks b [] other all = refl
written_lacks b (segment ∷ segments) other all =
    let parts = and_parts (lacks b segment) (list_all (lacks b) segments) all in
    let end : nat_eq 13 b ≡ false = ne_eqb 13 b (λ same. other (sym same)) in
    let ended : lacks b (segment ++ 13 ∷ []) ≡ true = list_all-append (λ c. not (nat_eq c b)) segment (13 ∷ []) ∙ and_from (lacks b segment) (lacks b (13 ∷ [])) parts.0 (rw end refl) in
    list_all-append (λ c. not (nat_eq c b)) (segment ++ 13 ∷ []) (written segments) ∙ and_from (lacks b (segment ++ 13 ∷ [])) (lacks b (written segments)) ended (written_lacks b segments other parts.1)
