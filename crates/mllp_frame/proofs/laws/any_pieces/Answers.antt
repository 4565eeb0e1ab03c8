use Rattle.mllp_frame.proofs.Pieces.{any_pieces, any_end, any_refusal}
use Rattle.mllp_frame.proofs.laws.any_pieces.Goals as goal

pub returns : goal.returns
returns c = record { events = any_pieces; end = any_end; refused = any_refusal }
