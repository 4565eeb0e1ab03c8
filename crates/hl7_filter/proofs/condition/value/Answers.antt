use Rattle.std.proofs.Common.{sym, ◌∙◌}
use Rattle.hl7_filter.proofs.Unescaped.{plain-unescaped}
use Rattle.hl7_filter.proofs.condition.value.Goals as goal

pub returns-then-lacks-clause-value : goal.returns-then-lacks-clause-value
returns-then-lacks-clause-value c =
    let unescaped = rw (c.escape.ensures.value, c.delims.ensures, c.get_raw-raw.ensures) at (sym c.lacks.ensures ∙ c.if-lacks.true) in
    c.get_raw-raw.ensures ∙ sym (plain-unescaped c.args.message.now.delims _ unescaped)
