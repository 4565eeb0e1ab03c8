use Rattle.std.proofs.Common.{◌==◌, get_or, ⊎_elim}
use Rattle.std.proofs.lemmas.Bool.{or_cases, and_parts}
use Rattle.mllp_frame.specs.Framing.{start_block, end_block}
use Rattle.mllp_frame.proofs.search.are_plain.Goals as goal

pub returns : goal.returns
returns c both k low high here =
    let apart = and_parts _ _ both in
    ⊎_elim (c.lacks.ensures apart.0 k low high) (c.lacks-2.ensures apart.1 k low high) (or_cases (get_or c.args.piece.now k 0 == start_block) (get_or c.args.piece.now k 0 == end_block) here)
