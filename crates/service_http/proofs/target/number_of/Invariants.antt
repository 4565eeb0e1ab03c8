use Rattle.std.proofs.Common.{◌≡◌, drop}
use Rattle.service_http.specs.inner.Targets.{number_after}
use Rattle.service_http.proofs.target.number_of.Given as goal

-- the digits so far wrote the number, and the rest follows them
abbrev pub invariant-loop-byte : goal.invariant-loop-byte
invariant-loop-byte l = number_after 0 l.text ≡ number_after l.number (drop l.byte-index l.text)
