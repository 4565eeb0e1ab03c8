use Rattle.std.proofs.Common.{◌≡◌, [], ◌∷◌, ◌++◌, ◌∙◌, ap}
use Rattle.hl7_head.specs.Ack.{fields_text, reply_id}
use Rattle.hl7_head.specs.Header.{Msh}
use Rattle.hl7_head.specs.inner.Places.{pieces_at}
use Rattle.hl7_head.proofs.Assembling.{headed}
use Rattle.hl7_head.proofs.Fronts.{begins, if_err, if_ok, on_err}
use Rattle.hl7_head.proofs.reply.push_header.Goals as goal

pub returns-clause-ok : goal.returns-clause-ok
returns-clause-ok c =
    let h : Msh = pieces_at c.args.header.now.delims c.source.result.0.now c.source.result.1.now in
    let same : h ≡ c.args.header.now = c.source.ensures.pieces in
    let dated = rw (c.field-separator.ensures, c.delims.ensures, c.text.ensures) at c.in_ok-push_field.ensures.ok in
    let identified = rw (c.field-separator.ensures, c.delims.ensures) at c.in_ok-push_reply_id.ensures.ok in
    let copied = rw (c.field-separator.ensures, c.delims.ensures) at c.push_pair.ensures.ok in
    if_ok c.push_pair.result
    (λ last. headed c.args.header.now c.args.stamped.now (reply_id c.args.connection c.args.number) c.args.text.now.items
    c.push_routing.new.text.items c.push_field.new.text.items c.push_reply_type.new.text.items c.push_reply_id.new.text.items c.push_pair.new.text.items
    c.in_ok-push_routing.ensures.ok dated c.in_ok-push_reply_type.ensures.ok identified
    (last ∙ ap (λ (k : Msh). c.push_reply_id.new.text.items ++ fields_text c.args.header.now.delims.field (k.processing_id ∷ k.version_id ∷ [])) same))
    copied

pub returns-in_err-push_reply_id-clause-err : goal.returns-in_err-push_reply_id-clause-err
returns-in_err-push_reply_id-clause-err c =
    on_err c.from_residual-in_err-push_reply_id.result
    (begins _ _ _ _ c.in_ok-push_routing.ensures.ok
    (begins _ _ _ _ c.in_ok-push_field.ensures.ok
    (begins _ _ _ _ c.in_ok-push_reply_type.ensures.ok c.in_err-push_reply_id.ensures.err)))

pub returns-clause-err : goal.returns-clause-err
returns-clause-err c =
    if_err c.push_pair.result
    (λ last. begins _ _ _ _ c.in_ok-push_routing.ensures.ok
    (begins _ _ _ _ c.in_ok-push_field.ensures.ok
    (begins _ _ _ _ c.in_ok-push_reply_type.ensures.ok
    (begins _ _ _ _ c.in_ok-push_reply_id.ensures.ok last))))
    c.push_pair.ensures.err
