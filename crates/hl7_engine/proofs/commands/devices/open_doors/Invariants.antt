use Rattle.std.proofs.Common.{◌≡◌, vec_len}
use Rattle.hl7_engine.proofs.commands.devices.open_doors.Given as goal

abbrev pub invariant-loop-place : goal.invariant-loop-place
invariant-loop-place g l = vec_len l.doors ≡ l.place
