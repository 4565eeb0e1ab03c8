use Rattle.std.proofs.Common.{[]}
use Rattle.std.specs.Io.KnownBytes.{Consumes}
use Rattle.service_commands.proofs.input.read_byte.Given as goal

-- nothing is read yet
abbrev pub invariant-again : goal.invariant-again
invariant-again g l = Consumes (g.R.Read.remaining l.fn.reader) (g.R.Read.remaining l.reader) []
