use Rattle.std.proofs.Common.{◌≡◌, length}
use Rattle.service_commands.proofs.Line.{IsHeld}
use Rattle.service_commands.proofs.input.read_line.Given as goal

-- the bytes so far are held
abbrev pub invariant-bytes : goal.invariant-bytes
invariant-bytes g l =
    record {
      held : IsHeld (g.R.Read.remaining l.fn.reader) (g.R.Read.remaining l.reader) l.buffer l.held;
      room : length l.buffer ≡ length l.fn.buffer;
    }
