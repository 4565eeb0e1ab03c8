-- What was added so far is printing.
use Rattle.std.proofs.Common.{◌≡◌, true, string_bytes}
use Rattle.std.specs.List.{list_all}
use Rattle.plan_notes.specs.inner.Line.{is_printing}
use Rattle.plan_notes.proofs.line.shown_text.Given as goal

abbrev pub invariant-loop-byte : goal.invariant-loop-byte
invariant-loop-byte l = list_all is_printing (string_bytes l.made) ≡ true
