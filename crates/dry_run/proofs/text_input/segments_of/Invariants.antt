use Rattle.std.proofs.Common.{◌≡◌, ◌++◌, drop, false}
use Rattle.dry_run.specs.inner.Segments.{segments}
use Rattle.dry_run.proofs.text_input.segments_of.Given as goal

-- the message so far is written, and the rest follows it
abbrev pub invariant-loop-byte : goal.invariant-loop-byte
invariant-loop-byte l = segments false l.text ≡ l.message.items ++ segments l.after_return (drop l.byte-index l.text)
