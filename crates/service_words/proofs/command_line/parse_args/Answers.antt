use Rattle.service_words.proofs.Refusing.{fails-still}
use Rattle.service_words.proofs.command_line.parse_args.Goals as goal

pub returns-in_err-matches-clause-refused : goal.returns-in_err-matches-clause-refused
returns-in_err-matches-clause-refused c = fails-still _ _ _ c.from_residual.result c.in_err-matches.ensures.refused c.from_residual.ensures.1
