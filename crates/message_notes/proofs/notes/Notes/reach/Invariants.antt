use Rattle.std.proofs.Common.{◌≡◌, ℕ, length}
use Rattle.message_notes.specs.inner.Notes.{kept}
use Rattle.message_notes.proofs.notes.Notes.reach.Given as goal

-- there is room up to the counter, and the same notes are kept
abbrev pub invariant-loop : goal.invariant-loop
invariant-loop g l =
    (l.self.first ≡ l.initial.self.first)
    × (length l.self.slots.items ≡ l.counter)
    × ((n : ℕ) → kept l.self.first l.self.slots.items n ≡ kept l.initial.self.first l.initial.self.slots.items n)
