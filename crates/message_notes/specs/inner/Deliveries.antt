-- What is noted about the deliveries of a message.
use Rattle.std.specs.Prelude.{ℕ, Bool, ◌==◌, List, Option, filter, find, not}
use Rattle.message_notes.specs.declared.deliveries.DeliveryNote.{DeliveryNote}

-- the note is about the delivery to this destination
abbrev pub is_to : ℕ → DeliveryNote → Bool
is_to d note = note.destination == d

-- the note about the delivery to a destination, where there is one
abbrev pub delivery : ℕ → List DeliveryNote → Option DeliveryNote
delivery d notes = find (is_to d) notes

-- the notes that are not about a destination
abbrev pub without : ℕ → List DeliveryNote → List DeliveryNote
without d notes = filter (λ note. not (is_to d note)) notes
