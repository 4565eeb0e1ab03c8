use Rattle.mllp_frame.proofs.OneByte.{one_byte-event, one_byte-piece}
use Rattle.mllp_frame.proofs.laws.single_bytes.Goals as goal

pub returns : goal.returns
returns c = record { stream = one_byte-event; piece = one_byte-piece }
