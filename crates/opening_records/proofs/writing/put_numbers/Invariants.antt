use Rattle.std.proofs.Common.{◌≡◌, ◌++◌, take}
use Rattle.opening_records.specs.inner.Encoding.{numbers_bytes}
use Rattle.opening_records.proofs.writing.put_numbers.Given as goal

abbrev pub invariant-loop-number : goal.invariant-loop-number
invariant-loop-number l = l.out.items ≡ l.initial.out.items ++ numbers_bytes (take l.number-index l.numbers)
