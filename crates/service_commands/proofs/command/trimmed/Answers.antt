use Rattle.std.proofs.lemmas.Str.Ascii.{trim_ascii_end_is}
use Rattle.service_commands.proofs.command.trimmed.Goals as goal

-- a text without its white space is determined by the length of the white space at its end
pub returns : goal.returns
returns c = trim_ascii_end_is c.args.line.now c.trim_ascii_end.result.now c.trim_ascii_end.ensures.value
