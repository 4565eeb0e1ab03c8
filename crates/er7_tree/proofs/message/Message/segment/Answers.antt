use Rattle.std.proofs.Common.{[], Some, sym, ap, ◌∙◌}
use Rattle.std.proofs.lemmas.Option.{get_or_from_slice_get}
use Rattle.er7_tree.proofs.Placing.{first_is, none_is}
use Rattle.er7_tree.proofs.message.Message.segment.Goals as goal

pub returns : goal.returns
returns c =
    sym (first_is c.args.name.now c.args.self.now.segments _ c.in_ok-place.ensures.found ∙ ap Some (get_or_from_slice_get c.args.self.now.segments c.in_ok-place.place c.at.result.now [] c.at.ensures))

pub returns-in_err-place : goal.returns-in_err-place
returns-in_err-place c = rw c.from_residual.ensures (sym (none_is c.args.name.now c.args.self.now.segments c.in_err-place.ensures.missing))
