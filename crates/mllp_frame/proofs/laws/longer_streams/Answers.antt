use Rattle.mllp_frame.proofs.Appending.{blocks-append, open_end-append}
use Rattle.mllp_frame.proofs.Pieces.{front_stays}
use Rattle.mllp_frame.proofs.laws.longer_streams.Goals as goal

pub returns : goal.returns
returns c = record { blocks = blocks-append; end = open_end-append; stays = front_stays }
