use Rattle.std.proofs.Common.{◌≡◌, ◌++◌, drop}
use Rattle.std.specs.List.{flat_map}
use Rattle.service_http.specs.inner.Escape.{json_byte}
use Rattle.service_http.proofs.document.Document.string.Given as goal

-- what is written and what the rest of the text becomes are together what the whole becomes
abbrev pub invariant-loop-byte : goal.invariant-loop-byte
invariant-loop-byte l =
    l.self.bytes.items ++ flat_map json_byte (drop l.byte-index l.text)
    ≡ l.initial.self.bytes.items ++ flat_map json_byte l.text
