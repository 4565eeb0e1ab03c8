use Rattle.std.proofs.Common.{◌≡◌, take}
use Rattle.service_workers.specs.inner.Held.{names_of}
use Rattle.service_workers.proofs.held.HeldNames.copy.Given as goal

abbrev pub invariant-loop-name : goal.invariant-loop-name
invariant-loop-name l = names_of l.names.items ≡ names_of (take l.name-index l.self.names.items)
