use Rattle.std.proofs.Common.{◌≡◌, ◌++◌, ◌∙◌, ap}
use Rattle.mllp_frame.specs.inner.Framed.{Framed}
use Rattle.mllp_frame.specs.Framing.{blocks}
use Rattle.mllp_frame.specs.inner.Framing.{open_end}
use Rattle.engine_model.specs.Steps.{frame_events_max}
use Rattle.engine_model.proofs.Handled.{on_err_always, on_err_one}
use Rattle.engine_model.proofs.PieceRead.{on_ok_three, read-front, read-lost, read-none, read-whole}
use Rattle.engine_model.proofs.connection.Connected.read.Goals as goal

pub returns-in_err-extend_from_slice-clause-err : goal.returns-in_err-extend_from_slice-clause-err
returns-in_err-extend_from_slice-clause-err g c =
    on_err_always c.from_residual.result
    (read-lost c.args.conn c.args.self.now.channel c.args.now c.args.self.now.stream.items c.args.bytes.now c.extend_from_slice.new.self.items c.args.self.now.ended c.args.book.now c.args.self.now.words
    c.requires.stands.stays c.in_err-extend_from_slice.ensures.items)

pub returns-in_default-clause-err : goal.returns-in_default-clause-err
returns-in_default-clause-err g c =
    read-none c.args.conn c.args.self.now.channel c.args.now c.args.self.now.stream.items c.args.bytes.now c.extend_from_slice.new.self.items c.args.self.now.ended c.args.book.now c.args.self.now.words
    c.requires.stands.stays c.in_ok-extend_from_slice.ensures.items

pub returns-clause-ok : goal.returns-clause-ok
unfolding frame_events_max
returns-clause-ok g c =
    let came : c.feed.new.self.to_come ≡ blocks (open_end c.args.self.now.stream.items ++ c.args.bytes.now) =
    ap (λ (f : Framed). f.to_come) c.in-Ok.ensures.ok
    ∙ ap (λ l. l ++ blocks (c.args.self.now.framer.open_end ++ c.args.bytes.now)) c.requires.stands.none_left
    ∙ ap (λ l. blocks (l ++ c.args.bytes.now)) c.requires.stands.left_open in
    on_ok_three c.answer_events.result
    (λ does has few. read-whole c.args.conn c.args.self.now.channel c.args.now c.args.self.now.stream.items c.args.bytes.now c.extend_from_slice.new.self.items c.args.self.now.ended c.args.book.now c.answer_events.new.book c.args.self.now.words c.answer_events.new.words
    c.args.self.now.events c.answer_events.new.events c.feed.new.self.to_come c.requires.stands.stays c.in_ok-extend_from_slice.ensures.items came does c.requires.stands.events has few)
    c.answer_events.ensures.ok c.answer_events.ensures.events c.answer_events.ensures.few

pub returns-clause-err : goal.returns-clause-err
returns-clause-err g c =
    let came : c.feed.new.self.to_come ≡ blocks (open_end c.args.self.now.stream.items ++ c.args.bytes.now) =
    ap (λ (f : Framed). f.to_come) c.in-Ok.ensures.ok
    ∙ ap (λ l. l ++ blocks (c.args.self.now.framer.open_end ++ c.args.bytes.now)) c.requires.stands.none_left
    ∙ ap (λ l. blocks (l ++ c.args.bytes.now)) c.requires.stands.left_open in
    on_err_one c.answer_events.result
    (λ does. read-front c.args.conn c.args.self.now.channel c.args.now c.args.self.now.stream.items c.args.bytes.now c.extend_from_slice.new.self.items c.args.self.now.ended c.args.book.now c.answer_events.new.book c.args.self.now.words c.answer_events.new.words
    c.feed.new.self.to_come c.requires.stands.stays c.in_ok-extend_from_slice.ensures.items came does)
    c.answer_events.ensures.err
