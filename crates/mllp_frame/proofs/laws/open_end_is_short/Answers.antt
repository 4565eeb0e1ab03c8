use Rattle.mllp_frame.proofs.Bounds.{open_end-short}
use Rattle.mllp_frame.proofs.laws.open_end_is_short.Goals as goal

pub returns : goal.returns
returns c = open_end-short
