use Rattle.std.proofs.Common.{◌≡◌, take}
use Rattle.std.specs.List.{flat_map}
use Rattle.play_script.specs.inner.Script.{shown_byte}
use Rattle.play_script.proofs.each_shown.Given as goal

abbrev pub invariant-loop-byte : goal.invariant-loop-byte
invariant-loop-byte l = l.text.items ≡ flat_map shown_byte (take l.byte-index l.bytes)
