use Rattle.std.proofs.Common.{ℕ, List, [], append-nil, refl, sym, ap, subst, take, ◌∙◌, arith}
use Rattle.std.proofs.lemmas.List.{with_items_is}
use Rattle.std.specs.Io.KnownBytes.{Appends, Consumes}
use Rattle.std.proofs.KnownBytes.{Appends-nil}
use Rattle.conn_core.specs.inner.Replies.{RepliesView}
use Rattle.mllp_frame.specs.Event.{FramingEvent}
use Rattle.mllp_frame.specs.inner.Framed.{Framed}
use Rattle.conn_worker.specs.inner.Handling.{HandlesAll, HandlesFront}
use Rattle.conn_worker.proofs.Standing.{none_handled, either_way, on_ok_two}
use Rattle.conn_worker.proofs.Pieces.{StreamLaws, ends_here, ends_amid, goes_on, fed_events, handled_then, handled_front_then, writing_other, handling_other, reading_end, if_err_two}
use Rattle.conn_worker.proofs.session.Session.serve_piece.Goals as goal

pub returns-in-Err-clause-err : goal.returns-in-Err-clause-err
returns-in-Err-clause-err g c first to_read held s =
    ends_here _ c.in-Err.end s c.in-Err.ensures.nothing (λ e. reading_end _ _ _ _ c.in-Err.ensures.stop e)

pub returns-in_default-clause-err : goal.returns-in_default-clause-err
returns-in_default-clause-err g c first to_read held s =
    let laws : StreamLaws = record { blocks_are = c.longer_streams.ensures.blocks; end_is = c.longer_streams.ensures.end } in
    ends_amid g.B.Booking.books laws _ _ c.args.self.now.dialogue _ _ [] [] s c.in-Ok.ensures.piece.1 (λ from before text st. none_handled st) s.all_written (Appends-nil _) (λ e. cc)

pub returns-in-Err-write_persisted-clause-err : goal.returns-in-Err-write_persisted-clause-err
returns-in-Err-write_persisted-clause-err g c first to_read held s =
    let laws : StreamLaws = record { blocks_are = c.longer_streams.ensures.blocks; end_is = c.longer_streams.ensures.end } in
    let reads = subst (λ (l : List ℕ). Consumes (g.R.Read.remaining c.args.reader.now.inner) (g.R.Read.remaining c.read_piece.new.reader.inner) (take c.in-Ok.len l)) (sym (c.deref.ensures.value ∙ with_items_is c.args.self.now.buffer c.read_piece.new.buffer (omega (arith, c.read_piece.ensures.same_room, c.deref_mut.ensures.len)))) c.in-Ok.ensures.piece.1 in
    let fed = fed_events c.args.self.now.framer c.feed.new.self _ c.in-Ok-feed.ensures.ok c.requires.ready.none_left in
    let front = either_way g.B.Booking.books g.B.Booking.knows g.K.ReceiptSink.has c.answer_events-answered.result c.answer_events-answered.ensures.ok c.answer_events-answered.ensures.err in
    let w = c.in-Err-write_persisted.ensures.front in
    ends_amid g.B.Booking.books laws _ _ c.answer_events-answered.new.self _ _ w.written w.unwritten s reads
    (subst (λ (es : List FramingEvent). HandlesFront g.B.Booking.books g.B.Booking.knows g.K.ReceiptSink.has c.args.line.now.conn c.args.line.now.channel es c.args.book.now c.write_persisted.new.book c.args.self.now.dialogue c.answer_events-answered.new.self) fed (handled_front_then g.B.Booking.books g.met.B.Booking.after c.write_persisted.ensures.unbooked (λ channel raw. g.met.B.Booking.still_knows _ _ [] channel raw c.write_persisted.ensures.unbooked) front))
    (sym c.as_slice-replies.ensures ∙ w.whole) w.wrote (writing_other _ _ _ c.in-Err-write_persisted.ensures.stop)

pub returns-clause-ok : goal.returns-clause-ok
returns-clause-ok g c =
    let laws : StreamLaws = record { blocks_are = c.longer_streams.ensures.blocks; end_is = c.longer_streams.ensures.end } in
    let reads = subst (λ (l : List ℕ). Consumes (g.R.Read.remaining c.args.reader.now.inner) (g.R.Read.remaining c.read_piece.new.reader.inner) (take c.in-Ok.len l)) (sym (c.deref.ensures.value ∙ with_items_is c.args.self.now.buffer c.read_piece.new.buffer (omega (arith, c.read_piece.ensures.same_room, c.deref_mut.ensures.len)))) c.in-Ok.ensures.piece.1 in
    let fed = fed_events c.args.self.now.framer c.feed.new.self _ c.in-Ok-feed.ensures.ok c.requires.ready.none_left in
    on_ok_two c.answer_events-answered.result
    (λ all left first to_read held s.
    goes_on g.B.Booking.books laws _ _ c.answer_events-answered.new.self _ _ s reads
    (subst (λ (es : List FramingEvent). HandlesAll g.B.Booking.books g.B.Booking.knows g.K.ReceiptSink.has c.args.line.now.conn c.args.line.now.channel es c.args.book.now c.write_persisted.new.book c.args.self.now.dialogue c.answer_events-answered.new.self) fed (handled_then g.B.Booking.books g.met.B.Booking.after c.write_persisted.ensures.unbooked (λ channel raw. g.met.B.Booking.still_knows _ _ [] channel raw c.write_persisted.ensures.unbooked) all))
    (subst (λ (l : List ℕ). Appends (g.W.Write.contents c.args.writer.now.inner) (g.W.Write.contents c.write_persisted.new.writer.inner) l) c.as_slice-replies.ensures c.in-Ok-write_persisted.ensures.ok)
    (ap (λ (f : Framed). f.to_come) left)
    (ap (λ (f : Framed). f.open_end) left ∙ ap (λ (f : Framed). f.open_end) c.in-Ok-feed.ensures.ok)
    refl (ap (λ (r : RepliesView). r.made) c.clear.ensures) (ap (λ (r : RepliesView). r.bytes) c.clear.ensures))
    c.answer_events-answered.ensures.ok c.answer_events-answered.ensures.left

pub returns-clause-err : goal.returns-clause-err
returns-clause-err g c =
    let laws : StreamLaws = record { blocks_are = c.longer_streams.ensures.blocks; end_is = c.longer_streams.ensures.end } in
    let reads = subst (λ (l : List ℕ). Consumes (g.R.Read.remaining c.args.reader.now.inner) (g.R.Read.remaining c.read_piece.new.reader.inner) (take c.in-Ok.len l)) (sym (c.deref.ensures.value ∙ with_items_is c.args.self.now.buffer c.read_piece.new.buffer (omega (arith, c.read_piece.ensures.same_room, c.deref_mut.ensures.len)))) c.in-Ok.ensures.piece.1 in
    let fed = fed_events c.args.self.now.framer c.feed.new.self _ c.in-Ok-feed.ensures.ok c.requires.ready.none_left in
    if_err_two c.answer_events-answered.result
    (λ end front stop first to_read held s.
    ends_amid g.B.Booking.books laws _ _ c.answer_events-answered.new.self end _ c.answer_events-answered.new.self.replies.bytes [] s reads
    (subst (λ (es : List FramingEvent). HandlesFront g.B.Booking.books g.B.Booking.knows g.K.ReceiptSink.has c.args.line.now.conn c.args.line.now.channel es c.args.book.now c.write_persisted.new.book c.args.self.now.dialogue c.answer_events-answered.new.self) fed (handled_front_then g.B.Booking.books g.met.B.Booking.after c.write_persisted.ensures.unbooked (λ channel raw. g.met.B.Booking.still_knows _ _ [] channel raw c.write_persisted.ensures.unbooked) front))
    (sym (append-nil _)) (subst (λ (l : List ℕ). Appends (g.W.Write.contents c.args.writer.now.inner) (g.W.Write.contents c.write_persisted.new.writer.inner) l) c.as_slice-replies.ensures c.in-Ok-write_persisted.ensures.ok) (handling_other end stop))
    c.answer_events-answered.ensures.err c.answer_events-answered.ensures.stop
