-- What a book keeps of an accepted message, as its contracts see it, and how it is kept.
use Rattle.std.specs.Prelude.{ℕ, ◌+◌, List, [], ◌∷◌}
use Rattle.er7_tree.specs.declared.segments.Span.{Span}
use Rattle.judge_core.specs.declared.delivery.Delivery.{Delivery}
use Rattle.book_core.specs.declared.letter.Marks.{Marks}
use Rattle.book_core.specs.declared.letter.Sent.{Sent}
use Rattle.book_core.specs.declared.letter.Sent.TheVariants.{One, Several}

-- the index of its arrival in the history, its channel, the bytes received, its control id, and the text for each destination
pub record Letter : Type 0 where
  pub place : ℕ
  pub channel : ℕ
  pub raw : List ℕ
  pub control_id : List ℕ
  pub deliveries : List Delivery

-- where the control id lies in the bytes received
abbrev pub id_span : Marks → Span
id_span marks = record { start = marks.id_start; end = marks.id_start + marks.id_len }

-- the marks that are kept beside what is sent
abbrev pub marks_of : Sent → Marks
marks_of (One destination marks payload) = marks
marks_of (Several marks all) = marks

-- the text for each destination
abbrev pub sent_by : Sent → List Delivery
sent_by (One destination marks payload) = record { destination = destination; payload = payload } ∷ []
sent_by (Several marks all) = all
