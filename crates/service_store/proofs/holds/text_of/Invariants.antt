use Rattle.std.proofs.Common.{◌≡◌, take}
use Rattle.service_store.specs.inner.Holds.{holds_text}
use Rattle.service_store.proofs.holds.text_of.Given as goal

-- the names so far are written
abbrev pub invariant-loop-name : goal.invariant-loop-name
invariant-loop-name l = l.text.items ≡ holds_text (take l.name-index l.names)
