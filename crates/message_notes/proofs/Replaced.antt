-- The notes of the deliveries of a message once one is replaced.
use Rattle.std.proofs.Common.{◌≡◌, ◌≢◌, ◌==◌, ◌∙◌, ◌++◌, ◌∷◌, [], ℕ, List, Some, not, filter, false, refl, inl, inr, sym}
use Rattle.std.proofs.lemmas.Bool.Decides.{eqb_tells}
use Rattle.message_notes.specs.declared.deliveries.DeliveryNote.{DeliveryNote}
use Rattle.message_notes.specs.inner.Deliveries.{delivery, without}

not_to : (note : DeliveryNote) (d : ℕ) → d ≢ note.destination → (note.destination == d) ≡ false
not_to note d other = elim (eqb_tells note.destination d) [
  | inl v ↦ absurd (other (sym v.1))
  | inr v ↦ v.0
]

-- behind those that are not about its destination, a note is found
pub put_here : (notes : List DeliveryNote) (note : DeliveryNote)
    → delivery note.destination (without note.destination notes ++ note ∷ []) ≡ Some note
put_here [] note = elim (eqb_tells note.destination note.destination) [
  | inl v ↦ rw v.0 refl
  | inr v ↦ absurd (v.1 refl)
]
put_here (first ∷ notes) note = elim (eqb_tells first.destination note.destination) [
  | inl v ↦ rw v.0 (put_here notes note)
  | inr v ↦ rw v.0 (rw v.0 (put_here notes note))
]

-- without the notes about a destination, those about others are found as before
pub left_others : (notes : List DeliveryNote) (destination d : ℕ) → d ≢ destination
    → delivery d (without destination notes) ≡ delivery d notes
left_others [] destination d other = refl
left_others (first ∷ notes) destination d other = elim (eqb_tells first.destination destination) [
  | inl v ↦ rw (v.0, not_to first d (λ same. other (same ∙ v.1))) (left_others notes destination d other)
  | inr v ↦ elim (eqb_tells first.destination d) [
    | inl w ↦ rw (v.0, w.0) refl
    | inr w ↦ rw (v.0, w.0) (left_others notes destination d other)
  ]
]

-- and with one more behind them
pub put_others : (notes : List DeliveryNote) (note : DeliveryNote) (d : ℕ) → d ≢ note.destination
    → delivery d (without note.destination notes ++ note ∷ []) ≡ delivery d notes
put_others [] note d other = rw (not_to note d other) refl
put_others (first ∷ notes) note d other = elim (eqb_tells first.destination note.destination) [
  | inl v ↦ rw (v.0, not_to first d (λ same. other (same ∙ v.1))) (put_others notes note d other)
  | inr v ↦ elim (eqb_tells first.destination d) [
    | inl w ↦ rw (v.0, w.0) refl
    | inr w ↦ rw (v.0, w.0) (put_others notes note d other)
  ]
]
