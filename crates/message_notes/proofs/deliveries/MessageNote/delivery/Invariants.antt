use Rattle.std.proofs.Common.{◌≡◌, drop}
use Rattle.message_notes.specs.inner.Deliveries.{delivery}
use Rattle.message_notes.proofs.deliveries.MessageNote.delivery.Given as goal

-- what is found among all notes is found among those that are left
abbrev pub invariant-loop-note : goal.invariant-loop-note
invariant-loop-note l = delivery l.destination l.self.deliveries.items ≡ delivery l.destination (drop l.note-index l.self.deliveries.items)
