use Rattle.std.proofs.Common.{◌≡◌, ◌≤◌, ◌⊎◌, ℕ, None, nat_lt, if◌then◌else◌}
use Rattle.message_notes.specs.inner.Notes.{kept}
use Rattle.message_notes.proofs.notes.Notes.forget_below.Given as goal

-- what is below the first number so far is forgotten
abbrev pub invariant-loop-next : goal.invariant-loop-next
invariant-loop-next g l =
    (l.self.first ≡ l.next)
    × ((l.next ≤ l.first) ⊎ (l.next ≡ l.initial.self.first))
    × ((n : ℕ) → kept l.self.first l.self.slots.items n
    ≡ (if nat_lt n l.self.first then None else kept l.initial.self.first l.initial.self.slots.items n))
