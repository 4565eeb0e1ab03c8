use Rattle.std.proofs.Common.{rules, ◌≡◌, ap, sym, subst, ◌∙◌, Ok, Err, length, ◌≤◌, ◌-◌}
use Rattle.std.proofs.lemmas.Result.{err_from_is_err_and}
use Rattle.std.specs.List.{filter}
use Rattle.er7_tree.specs.declared.refusal.Refusal.TheVariants.{NoSuchSegment}
use Rattle.er7_tree.specs.Tree.{has_name}
use Rattle.er7_tree.specs.inner.Tree.{IsMessage, IsOccurrence}
use Rattle.er7_tree.specs.Edit.{with_piece}
use Rattle.er7_tree.proofs.Editing.{copy_kept, copy_gives, copy_none, ok}
use Rattle.er7_tree.proofs.message.Message.copy.Goals as goal

pub returns-in_err-place-clause-refused : goal.returns-in_err-place-clause-refused
returns-in_err-place-clause-refused c =
    let from = c.args.from.now in
    let to = c.args.to.now in
    let t = c.args.self.now in
    let free = sym c.is_fixed.ensures.value ∙ c.if-is_fixed.false in
    let free_to = sym c.is_fixed-else-is_fixed.ensures.value ∙ c.if-is_fixed-2.false in
    let level = sym c.is_level_with.ensures ∙ c.if-not-is_level_with.false in
    let exit = err_from_is_err_and c.from_residual.result c.from_residual.ensures.1 in
    let few : length (filter (has_name to.segment) t.segments) ≤ to.occurrence - 1 = search rules in
    let none = copy_none t from to c.is_fixed-else-is_fixed.ensures.path free free_to level few in
    let same : Err c.in_err-place.field-0.0 ≡ Err NoSuchSegment = rw c.in_err-place.ensures.ok_part at c.in_err-place.ensures.value in
    let cause : c.in_err-place.field-0.0 ≡ NoSuchSegment = cc in
    rw (exit.1, exit.2, cause) none

pub returns-in_err-copied-clause-refused : goal.returns-in_err-copied-clause-refused
returns-in_err-copied-clause-refused c =
    let from = c.args.from.now in
    let to = c.args.to.now in
    let t = c.args.self.now in
    let free = sym c.is_fixed.ensures.value ∙ c.if-is_fixed.false in
    let free_to = sym c.is_fixed-else-is_fixed.ensures.value ∙ c.if-is_fixed-2.false in
    let level = sym c.is_level_with.ensures ∙ c.if-not-is_level_with.false in
    let at : IsOccurrence to.segment to.occurrence t.segments c.in_ok-place.place = search rules in
    let exit = err_from_is_err_and c.from_residual-in_err-copied.result c.from_residual-in_err-copied.ensures.1 in
    rw (exit.1, exit.2) (ok _ _ (copy_gives t from to c.in_ok-place.place c.is_fixed-else-is_fixed.ensures.path free free_to level at))

pub put_piece-requires-clause-kept : goal.put_piece-requires-clause-kept
put_piece-requires-clause-kept c =
    let from = c.args.from.now in
    let to = c.args.to.now in
    let t = c.args.self.now in
    let free = sym c.is_fixed.ensures.value ∙ c.if-is_fixed.false in
    let free_to = sym c.is_fixed-else-is_fixed.ensures.value ∙ c.if-is_fixed-2.false in
    let level = sym c.is_level_with.ensures ∙ c.if-not-is_level_with.false in
    let copied_is = c.deref.ensures.value ∙ c.in_ok-copied.ensures.items ∙ c.get_raw.ensures in
    subst (λ piece. IsMessage (with_piece t to piece)) (sym copied_is)
    (copy_kept t c.place_of.ensures.message from to c.is_fixed.ensures.path c.is_fixed-else-is_fixed.ensures.path free free_to level)

pub returns-in_err-put_piece-clause-refused : goal.returns-in_err-put_piece-clause-refused
returns-in_err-put_piece-clause-refused c =
    let from = c.args.from.now in
    let to = c.args.to.now in
    let t = c.args.self.now in
    let free = sym c.is_fixed.ensures.value ∙ c.if-is_fixed.false in
    let free_to = sym c.is_fixed-else-is_fixed.ensures.value ∙ c.if-is_fixed-2.false in
    let level = sym c.is_level_with.ensures ∙ c.if-not-is_level_with.false in
    let at : IsOccurrence to.segment to.occurrence t.segments c.in_ok-place.place = search rules in
    let exit = err_from_is_err_and c.from_residual-in_err-put_piece.result c.from_residual-in_err-put_piece.ensures.1 in
    rw (exit.1, exit.2) (ok _ _ (copy_gives t from to c.in_ok-place.place c.is_fixed-else-is_fixed.ensures.path free free_to level at))

pub returns-clause-made : goal.returns-clause-made
returns-clause-made c =
    let from = c.args.from.now in
    let to = c.args.to.now in
    let t = c.args.self.now in
    let free = sym c.is_fixed.ensures.value ∙ c.if-is_fixed.false in
    let free_to = sym c.is_fixed-else-is_fixed.ensures.value ∙ c.if-is_fixed-2.false in
    let level = sym c.is_level_with.ensures ∙ c.if-not-is_level_with.false in
    let at : IsOccurrence to.segment to.occurrence t.segments c.in_ok-place.place = search rules in
    let copied_is = c.deref.ensures.value ∙ c.in_ok-copied.ensures.items ∙ c.get_raw.ensures in
    copy_gives t from to c.in_ok-place.place c.is_fixed-else-is_fixed.ensures.path free free_to level at
    ∙ ap (λ piece. Ok (with_piece t to piece)) (sym copied_is) ∙ ap Ok (sym c.in_ok-put_piece.ensures.made)
