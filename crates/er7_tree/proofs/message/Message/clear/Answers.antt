use Rattle.std.proofs.Common.{rules, ap, sym, ◌∙◌, Ok, length, ◌≤◌, ◌-◌}
use Rattle.std.specs.List.{filter}
use Rattle.er7_tree.specs.Tree.{has_name}
use Rattle.er7_tree.specs.inner.Tree.{IsOccurrence}
use Rattle.er7_tree.specs.Edit.{has_in, field_levels}
use Rattle.er7_tree.proofs.Editing.{clear_none, clear_absent, clear_gives, clear_kept, clear_there}
use Rattle.er7_tree.proofs.message.Message.clear.Goals as goal
use Rattle.er7_tree.specs.Delims.{Delims}

pub returns-in_default-clause-made : goal.returns-in_default-clause-made
returns-in_default-clause-made c =
    let p = c.args.path.now in
    let t = c.args.self.now in
    let few : length (filter (has_name p.segment) t.segments) ≤ p.occurrence - 1 = search rules in
    clear_none t p c.is_fixed.ensures.path (sym c.is_fixed.ensures.value ∙ c.if-is_fixed.false) few

pub returns-then-not-has_field-clause-made : goal.returns-then-not-has_field-clause-made
returns-then-not-has_field-clause-made c =
    let p = c.args.path.now in
    let t = c.args.self.now in
    let segment = c.at.result.now in
    let at : IsOccurrence p.segment p.occurrence t.segments c.in-Some.place = search rules in
    let absent = sym (c.has_field.ensures ∙ ap (λ (d : Delims). has_in (field_levels d p segment) segment) c.delims.ensures) ∙ c.if-not-has_field.true in
    clear_absent t p segment c.in-Some.place c.is_fixed.ensures.path (sym c.is_fixed.ensures.value ∙ c.if-is_fixed.false) at c.at.ensures absent

pub put_piece-requires-clause-kept : goal.put_piece-requires-clause-kept
put_piece-requires-clause-kept c = clear_kept c.args.self.now c.place_of.ensures.message c.args.path.now c.is_fixed.ensures.path (sym c.is_fixed.ensures.value ∙ c.if-is_fixed.false)

pub returns-clause-made : goal.returns-clause-made
returns-clause-made c =
    let p = c.args.path.now in
    let t = c.args.self.now in
    let segment = c.at.result.now in
    let at : IsOccurrence p.segment p.occurrence t.segments c.in-Some.place = search rules in
    let present = sym (c.has_field.ensures ∙ ap (λ (d : Delims). has_in (field_levels d p segment) segment) c.delims.ensures) ∙ c.if-not-has_field.false in
    clear_gives t p segment c.in-Some.place c.is_fixed.ensures.path (sym c.is_fixed.ensures.value ∙ c.if-is_fixed.false) at c.at.ensures present
    ∙ ap Ok (sym c.in_ok-put_piece.ensures.made)

pub returns-in_err-put_piece-clause-memory : goal.returns-in_err-put_piece-clause-memory
returns-in_err-put_piece-clause-memory c = λ _.
    let p = c.args.path.now in
    let t = c.args.self.now in
    let segment = c.at.result.now in
    let at : IsOccurrence p.segment p.occurrence t.segments c.in-Some.place = search rules in
    let present = sym (c.has_field.ensures ∙ ap (λ (d : Delims). has_in (field_levels d p segment) segment) c.delims.ensures) ∙ c.if-not-has_field.false in
    clear_there t p segment c.in-Some.place c.is_fixed.ensures.path at c.at.ensures present
