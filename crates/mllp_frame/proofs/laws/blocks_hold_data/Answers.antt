use Rattle.mllp_frame.proofs.DataLaws.{blocks_data}
use Rattle.mllp_frame.proofs.laws.blocks_hold_data.Goals as goal

pub returns : goal.returns
returns c = blocks_data
