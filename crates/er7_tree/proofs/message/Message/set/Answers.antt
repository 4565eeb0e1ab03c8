use Rattle.std.proofs.Common.{rules, ap, sym, subst, ◌∙◌, Ok}
use Rattle.std.proofs.lemmas.Result.{err_from_is_err_and}
use Rattle.er7_tree.specs.inner.Tree.{IsMessage, IsOccurrence}
use Rattle.er7_tree.specs.Edit.{with_piece}
use Rattle.er7_tree.specs.Escape.{escape}
use Rattle.er7_tree.proofs.Editing.{set_kept, set_gives, ok}
use Rattle.er7_tree.proofs.message.Message.set.Goals as goal
use Rattle.er7_tree.specs.Delims.{Delims}

pub returns-in_err-escaped-clause-refused : goal.returns-in_err-escaped-clause-refused
returns-in_err-escaped-clause-refused c =
    let exit = err_from_is_err_and c.from_residual-in_err-escaped.result c.from_residual-in_err-escaped.ensures.1 in
    let at : IsOccurrence c.args.path.now.segment c.args.path.now.occurrence c.args.self.now.segments c.in_ok-place.place = search rules in
    rw (exit.1, exit.2) (ok _ _ (set_gives c.args.self.now c.args.path.now c.args.value.now c.in_ok-place.place c.is_fixed.ensures.path (sym c.is_fixed.ensures.value ∙ c.if-is_fixed.false) at))

pub put_piece-requires-clause-kept : goal.put_piece-requires-clause-kept
put_piece-requires-clause-kept c =
    let t = c.args.self.now in
    let escaped_is = c.deref.ensures.value ∙ c.in_ok-escaped.ensures.value ∙ ap (λ (d : Delims). escape d c.args.value.now) c.delims.ensures in
    subst (λ piece. IsMessage (with_piece t c.args.path.now piece)) (sym escaped_is)
    (set_kept t c.place_of.ensures.message c.args.path.now c.is_fixed.ensures.path (sym c.is_fixed.ensures.value ∙ c.if-is_fixed.false) c.args.value.now)

pub returns-in_err-put_piece-clause-refused : goal.returns-in_err-put_piece-clause-refused
returns-in_err-put_piece-clause-refused c =
    let exit = err_from_is_err_and c.from_residual-in_err-put_piece.result c.from_residual-in_err-put_piece.ensures.1 in
    let at : IsOccurrence c.args.path.now.segment c.args.path.now.occurrence c.args.self.now.segments c.in_ok-place.place = search rules in
    rw (exit.1, exit.2) (ok _ _ (set_gives c.args.self.now c.args.path.now c.args.value.now c.in_ok-place.place c.is_fixed.ensures.path (sym c.is_fixed.ensures.value ∙ c.if-is_fixed.false) at))

pub returns-clause-made : goal.returns-clause-made
returns-clause-made c =
    let t = c.args.self.now in
    let at : IsOccurrence c.args.path.now.segment c.args.path.now.occurrence c.args.self.now.segments c.in_ok-place.place = search rules in
    let escaped_is = c.deref.ensures.value ∙ c.in_ok-escaped.ensures.value ∙ ap (λ (d : Delims). escape d c.args.value.now) c.delims.ensures in
    set_gives t c.args.path.now c.args.value.now c.in_ok-place.place c.is_fixed.ensures.path (sym c.is_fixed.ensures.value ∙ c.if-is_fixed.false) at
    ∙ ap (λ piece. Ok (with_piece t c.args.path.now piece)) (sym escaped_is) ∙ ap Ok (sym c.in_ok-put_piece.ensures.made)
