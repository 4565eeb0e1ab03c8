use Rattle.std.proofs.lemmas.Result.{IfOk-weaker}
use Rattle.clap.specs.Words.{app_of}
use Rattle.engine_report.proofs.Asking.{program-met, program-refuses}
use Rattle.engine_report.proofs.command_line.parse.Goals as goal

pub returns-clause-rows : goal.returns-clause-rows
returns-clause-rows c =
    IfOk-weaker c.try_get_matches_from.result _ _ (λ m has. program-met (app_of c.in_ok-program_command.field-0) _ m c.in_ok-program_command.ensures has) c.try_get_matches_from.ensures.matches

pub returns-clause-refused : goal.returns-clause-refused
returns-clause-refused c =
    program-refuses (app_of c.in_ok-program_command.field-0) _ c.try_get_matches_from.result c.in_ok-program_command.ensures c.try_get_matches_from.ensures.kinds
