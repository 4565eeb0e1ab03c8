use Rattle.hl7_head.proofs.Assembling.{answered}
use Rattle.hl7_head.proofs.Fronts.{begins, if_err, if_ok}
use Rattle.hl7_head.proofs.reply.push_segments.Goals as goal

pub returns-clause-ok : goal.returns-clause-ok
returns-clause-ok c =
    let headed = rw (c.reserve.ensures.items) at c.in_ok-push_header.ensures.ok in
    let between = rw (c.field-separator.ensures, c.delims.ensures) at c.in_ok-push_between.ensures.ok in
    if_ok c.push_answer.result
    (answered c.args.header.now c.args.part.now c.args.stamped.now c.args.connection c.args.number c.args.text.now.items
    c.push_header.new.text.items c.push_between.new.text.items c.push_answer.new.text.items headed between)
    c.push_answer.ensures.ok

pub returns-clause-err : goal.returns-clause-err
returns-clause-err c =
    let headed = rw (c.reserve.ensures.items) at c.in_ok-push_header.ensures.ok in
    if_err c.push_answer.result
    (λ last. begins _ _ _ _ headed (begins _ _ _ _ c.in_ok-push_between.ensures.ok last))
    c.push_answer.ensures.err
