use Rattle.std.proofs.Common.{refl, ap, ◌∙◌}
use Rattle.std.proofs.lemmas.Result.{IfOk-weaker}
use Rattle.clap.specs.Words.{with_rule}
use Rattle.engine_report.proofs.Commands.{stays_local, with_word}
use Rattle.engine_report.proofs.command_line.with_options.Goals as goal

pub returns-clause-app : goal.returns-clause-app
returns-clause-app c =
    let one = with_word _ c.in_ok-arg.field-0 _ _ c.in_ok-arg.ensures refl c.requires.option in
    IfOk-weaker c.arg-2.result _ _ (λ r adds. with_word _ r _ _ adds one c.events_option.ensures.local ∙ ap (with_rule _) c.events_option.ensures.rule) c.arg-2.ensures

pub returns-clause-local : goal.returns-clause-local
returns-clause-local c =
    let one = stays_local _ c.in_ok-arg.field-0 _ c.in_ok-arg.ensures c.requires.command c.requires.option in
    IfOk-weaker c.arg-2.result _ _ (λ r adds. stays_local _ r _ adds one c.events_option.ensures.local) c.arg-2.ensures
