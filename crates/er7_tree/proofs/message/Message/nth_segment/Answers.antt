use Rattle.std.proofs.Common.{[], sym, ◌∙◌}
use Rattle.std.proofs.lemmas.Option.{get_or_from_slice_get}
use Rattle.er7_tree.proofs.Placing.{occurrence_is, missing_is}
use Rattle.er7_tree.proofs.message.Message.nth_segment.Goals as goal

pub returns-in-Some : goal.returns-in-Some
returns-in-Some c =
    sym (occurrence_is c.args.name.now c.args.n c.args.self.now.segments _ c.in-Some.ensures.found ∙ get_or_from_slice_get c.args.self.now.segments c.in-Some.place c.at.result.now [] c.at.ensures)

pub returns-in-None : goal.returns-in-None
returns-in-None c = sym (missing_is c.args.name.now c.args.n c.args.self.now.segments c.in-None.ensures.missing)
