use Rattle.mllp_frame.specs.Framing.{is_framing}
use Rattle.conn_core.proofs.Texts.{framing_bytes_are_controls}
use Rattle.conn_core.proofs.laws.replies_fit_blocks.Goals as goal

pub returns : goal.returns
returns c =
    let came = c.requires in
    c.ack_adds_no_control.ensures.text is_framing framing_bytes_are_controls came.raw c.args.header.now came.header_is came.plain
