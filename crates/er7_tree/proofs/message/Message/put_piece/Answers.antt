use Rattle.std.proofs.Common.{sym, ap, subst, ◌∙◌}
use Rattle.std.proofs.lemmas.Result.{on_ok_weaker}
use Rattle.er7_tree.specs.inner.Tree.{IsMessage}
use Rattle.er7_tree.specs.Edit.{put_field}
use Rattle.er7_tree.proofs.Editing.{placed}
use Rattle.er7_tree.proofs.message.Message.put_piece.Goals as goal
use Rattle.er7_tree.specs.Delims.{Delims}

pub replace_segment-requires : goal.replace_segment-requires
replace_segment-requires c =
    let path = c.args.path.now in
    let new = c.args.new.now in
    let segment = c.at-segment.result.now in
    let is = placed c.args.self.now path new segment c.deref.result.now c.args.place c.requires.path c.requires.there c.at-segment.ensures
    (c.deref.ensures.value ∙ c.in_ok-changed.ensures ∙ ap (λ (d : Delims). put_field d path new segment) c.delims.ensures) in
    subst IsMessage (sym is) c.requires.kept

pub returns-clause-made : goal.returns-clause-made
returns-clause-made c =
    let path = c.args.path.now in
    let new = c.args.new.now in
    let segment = c.at-segment.result.now in
    let is = placed c.args.self.now path new segment c.deref.result.now c.args.place c.requires.path c.requires.there c.at-segment.ensures
    (c.deref.ensures.value ∙ c.in_ok-changed.ensures ∙ ap (λ (d : Delims). put_field d path new segment) c.delims.ensures) in
    on_ok_weaker c.replace_segment.result (λ made. made ∙ is) c.replace_segment.ensures.ok
