use Rattle.std.proofs.Common.{◌++◌, ◌∙◌, ap}
use Rattle.hl7_head.proofs.Fronts.{if_ok}
use Rattle.hl7_head.proofs.Runs.{one_run}
use Rattle.hl7_head.proofs.reply.push_pair.Goals as goal

pub returns-then-source-first-clause-ok : goal.returns-then-source-first-clause-ok
returns-then-source-first-clause-ok c =
    if_ok c.push_field.result
    (λ done. done ∙ ap (λ l. c.args.text.now.items ++ l)
    (one_run c.args.source.now c.args.first c.args.second c.args.separator c.requires.first c.requires.second c.if-second-first.true c.if-source-first.true))
    c.push_field.ensures.ok
