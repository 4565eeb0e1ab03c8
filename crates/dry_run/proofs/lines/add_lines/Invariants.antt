use Rattle.std.proofs.Common.{◌≡◌, ◌++◌, drop, true}
use Rattle.dry_run.specs.inner.Lines.{lines_from}
use Rattle.dry_run.proofs.lines.add_lines.Given as goal

-- the lines so far are written, and the rest follows them
abbrev pub invariant-loop-byte : goal.invariant-loop-byte
invariant-loop-byte l = l.fn.out.items ++ lines_from true l.text ≡ l.out.items ++ lines_from l.starts (drop l.byte-index l.text)
