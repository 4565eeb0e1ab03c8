-- What a step that may stand is refused for.
use Rattle.std.proofs.Common.{◌≡◌, ℕ, Bool, true, false, not, ◌||◌, List, Option, Some, None, Ok, Err, inl, inr, is_ok}
use Rattle.std.proofs.lemmas.Bool.{cases_Bool, false≢true}
use Rattle.std.specs.Option.{ok_or}
use Rattle.er7_tree.specs.Edit as edit
use Rattle.er7_tree.specs.Escape.{escape}
use Rattle.er7_tree.specs.Path.{Place, raw, value, is_fixed, same_level}
use Rattle.er7_tree.specs.Tree.{Tree, is_name, is_header, ◌>>=◌}
use Rattle.hl7_transform.specs.declared.fault.StopCause.TheVariants.{NoSuchSegment, NotInTable}
use Rattle.hl7_transform.specs.Check.{writable, may_stand}
use Rattle.hl7_transform.specs.inner.Rules.{LacksSegment}
use Rattle.hl7_transform.specs.Step.{Edit, set, copy, clear, lookup, remove, partner, made, change}
use Rattle.hl7_transform.proofs.Protecting.{free_of, or_parts}

-- a piece that isn't put wants a segment
unput : (t : Tree) (p : Place) (piece : List ℕ) → made (edit.put_piece t p piece) ≡ Err NoSuchSegment → edit.has_segment t p ≡ false
unput t p piece stopped =
    elim (cases_Bool (edit.has_segment t p)) [
      | inl there ↦ let bad : Ok (edit.with_piece t p piece) ≡ Err NoSuchSegment = rw there at stopped in cc
      | inr absent ↦ absent
    ]

-- a protected place is more than a fixed one
loose_of : (p : Place) → is_ok (writable p) ≡ true → is_fixed p ≡ false
loose_of p stands = (or_parts (is_fixed p) _ (free_of p stands)).0

unset : (t : Tree) (p : Place) (text : List ℕ) → is_ok (writable p) ≡ true → made (edit.set t p text) ≡ Err NoSuchSegment → edit.has_segment t p ≡ false
unset t p text stands stopped = unput t p (escape t.delims text) (rw (loose_of p stands) at stopped)

unlooked : (t : Tree) (p : Place) (found : Option (List ℕ)) → is_ok (writable p) ≡ true → (ok_or found NotInTable >>= λ text. made (edit.set t p text)) ≡ Err NoSuchSegment → edit.has_segment t p ≡ false
unlooked t p None stands stopped = cc
unlooked t p (Some text) stands stopped = unset t p text stands stopped

pub lacks-segment : (step : Edit) (t : Tree) → may_stand step ≡ true → change step t ≡ Err NoSuchSegment → LacksSegment step t
lacks-segment (set p text) t stands stopped = unset t p text stands stopped
lacks-segment (copy from to) t stands stopped =
    let bad : Bool = is_fixed from || is_fixed to || not (same_level from.part to.part) in
    elim (cases_Bool bad) [
      | inl is ↦ absurd (false≢true (rw is at stands))
      | inr level ↦ unput t to (raw t from) (rw level at stopped)
    ]
lacks-segment (clear p) t stands stopped =
    let bad = rw (loose_of p stands) at stopped in cc
lacks-segment (lookup p table default) t stands stopped = unlooked t p (partner table default (value t p)) stands stopped
lacks-segment (remove name) t stands stopped =
    elim (cases_Bool (is_name name)) [
      | inl named ↦ elim (cases_Bool (is_header name)) [
        | inl header ↦ absurd (false≢true (rw (named, header) at stands))
        | inr other ↦ let bad = rw (named, other) at stopped in cc
      ]
      | inr unnamed ↦ absurd (false≢true (rw unnamed at stands))
    ]
