use Rattle.std.proofs.Common.{◌≡◌, ◌++◌, ◌∙◌, ap, sym}
use Rattle.hl7_head.specs.Header.{Msh}
use Rattle.hl7_head.specs.inner.Ack.{routing_text}
use Rattle.hl7_head.specs.inner.Places.{pieces_at}
use Rattle.hl7_head.proofs.Assembling.{routed}
use Rattle.hl7_head.proofs.Fronts.{begins, if_err, if_ok, on_err}
use Rattle.hl7_head.proofs.reply.push_routing.Goals as goal

pub returns-clause-ok : goal.returns-clause-ok
returns-clause-ok c =
    let before = c.args.text.now.items in
    let h : Msh = pieces_at c.args.header.now.delims c.source.result.0.now c.source.result.1.now in
    let same : h ≡ c.args.header.now = c.source.ensures.pieces in
    let named = rw (c.field-separator.ensures, c.delims.ensures) at c.in_ok-extend_from_slice.ensures.items in
    let encoded = rw c.encoding_characters.ensures at c.in_ok-extend_from_slice-2.ensures.items in
    let received = rw (c.field-separator.ensures, c.delims.ensures) at c.in_ok-push_pair.ensures.ok in
    let sent = rw (c.field-separator.ensures, c.delims.ensures) at c.push_pair-2.ensures.ok in
    if_ok c.push_pair-2.result
    (λ last. routed h before c.extend_from_slice.new.self.items c.extend_from_slice-2.new.self.items c.push_pair.new.text.items c.push_pair-2.new.text.items
    named (encoded ∙ ap (λ (k : Msh). c.extend_from_slice.new.self.items ++ k.encoding_characters) (sym same)) received last
    ∙ ap (λ k. before ++ routing_text k) same)
    sent

pub returns-in_err-push_pair-clause-err : goal.returns-in_err-push_pair-clause-err
returns-in_err-push_pair-clause-err c =
    on_err c.from_residual-in_err-push_pair.result
    (begins _ _ _ _ c.in_ok-extend_from_slice.ensures.items
    (begins _ _ _ _ c.in_ok-extend_from_slice-2.ensures.items c.in_err-push_pair.ensures.err))

pub returns-clause-err : goal.returns-clause-err
returns-clause-err c =
    if_err c.push_pair-2.result
    (λ last. begins _ _ _ _ c.in_ok-extend_from_slice.ensures.items
    (begins _ _ _ _ c.in_ok-extend_from_slice-2.ensures.items
    (begins _ _ _ _ c.in_ok-push_pair.ensures.ok last)))
    c.push_pair-2.ensures.err
