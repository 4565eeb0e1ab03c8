use Rattle.mllp_frame.proofs.DataLaws.{block_behind, nothing_open_behind, blocks_in_row}
use Rattle.mllp_frame.proofs.laws.reading_back.Goals as goal

pub returns : goal.returns
returns c = record { one = block_behind; outside = nothing_open_behind; all = blocks_in_row }
