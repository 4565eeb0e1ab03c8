use Rattle.std.proofs.Common.{string_bytes, subst}
use Rattle.engine_report.specs.Words.{AsksBy}
use Rattle.engine_report.proofs.Asking.{no-fault}
use Rattle.engine_report.proofs.command_line.parse_args.Goals as goal

pub returns-clause-written : goal.returns-clause-written
returns-clause-written c = subst (AsksBy c.request_of.result) c.in_ok-matches.ensures.rows c.request_of.ensures.written

pub returns-then-words-le1-clause-refused : goal.returns-then-words-le1-clause-refused
returns-then-words-le1-clause-refused c = no-fault string_bytes c.args.words.now c.if-words-le1.true
