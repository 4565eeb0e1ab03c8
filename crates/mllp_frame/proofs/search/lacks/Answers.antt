use Rattle.std.proofs.Common.{sym, ◌∙◌}
use Rattle.std.proofs.lemmas.Bool.{eqb-true}
use Rattle.mllp_frame.proofs.Lanes.{nowhere_among}
use Rattle.mllp_frame.proofs.search.lacks.Goals as goal

pub returns : goal.returns
returns c none = nowhere_among c.args.byte c.args.piece.now c.args.at c.requires (sym c.lanes.ensures ∙ eqb-true _ _ none)
