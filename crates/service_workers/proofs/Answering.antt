-- What becomes of a message that arrives at a desk of a book, which may have no room for it.
use Rattle.std.proofs.Common.{◌≡◌, ℕ, [], ◌∷◌, None, Some, Option, Result, Ok, Err, IfErr, IfOk, OnErr, refl, sym, ◌∙◌}
use Rattle.event_log.specs.History.{History}
use Rattle.judge_core.specs.Judging.{Judgement}
use Rattle.book_core.specs.declared.receipt.NotBooked.{NotBooked}
use Rattle.book_core.specs.declared.receipt.Receipt.{Receipt}
use Rattle.book_lock.specs.Shares.{DeskView}
use Rattle.book_lock.specs.declared.tidying.Tidied.{Tidied}
use Rattle.book_lock.specs.inner.Tidies.{ArrivesAtTidied, unbooked_repeat}
use Rattle.conn_core.specs.Booking.{IfRepeat}
use Rattle.conn_worker.specs.Arriving.{IsKnownIn}
use Rattle.conn_worker.specs.inner.Arriving.{BooksAtDesk, desk_booked, desk_refused, refused_known}
use Rattle.service_workers.specs.inner.Answering.{outcome_of}

-- what holds of the receipt holds of that of the outcome
pub of_receipt : (P : Receipt → Type 0) (r : Result Receipt NotBooked) (o : Option ℕ) → IfOk r P → IfOk (outcome_of r o) P
of_receipt P r (Some first) h = tt
of_receipt P (Ok receipt) None h = h
of_receipt P (Err refusal) None h = tt

of_refusal : (Q : Type 0) (r : Result Receipt NotBooked) (o : Option ℕ) → OnErr r Q → ((first : ℕ) → o ≡ Some first → Q) → OnErr (outcome_of r o) Q
of_refusal Q r (Some first) h repeats = repeats first refl
of_refusal Q (Ok receipt) None h repeats = tt
of_refusal Q (Err refusal) None h repeats = h

of_repeat : (K : Type 0) (r : Result Receipt NotBooked) (o : Option ℕ) → ((first : ℕ) → o ≡ Some first → K) → IfErr (outcome_of r o) (IfRepeat K)
of_repeat K r (Some first) repeats = repeats first refl
of_repeat K (Ok receipt) None repeats = tt
of_repeat K (Err refusal) None repeats = tt

-- what is answered as a repeat without being booked was refused
was_refused : (Q : Type 0) (h : History) (judged : Judgement) (r : Result Receipt NotBooked) (first : ℕ) → unbooked_repeat h judged r ≡ Some first → OnErr r Q → Q
was_refused Q h judged (Ok receipt) first is q = absurd cc
was_refused Q h judged (Err refusal) first is q = q

module _ (h : History) (conn : ℕ) (judged : Judgement) (old new : DeskView) (name : ℕ) (tidied : Tidied) (arrives : ArrivesAtTidied h conn judged old new tidied) where
  pub tidied_booked : IfOk (outcome_of tidied.receipt tidied.repeats) (λ receipt. BooksAtDesk h old new (receipt ∷ []) name name)
  tidied_booked =
      of_receipt (λ receipt. BooksAtDesk h old new (receipt ∷ []) name name) tidied.receipt tidied.repeats
      (desk_booked h conn judged old new name name tidied.receipt arrives.at_desk.call arrives.at_desk.counted refl)

  refused : OnErr tidied.receipt (BooksAtDesk h old new [] name name)
  refused = desk_refused h conn judged old new name name tidied.receipt arrives.at_desk.call arrives.at_desk.refused refl

  pub tidied_refused : OnErr (outcome_of tidied.receipt tidied.repeats) (BooksAtDesk h old new [] name name)
  tidied_refused =
      of_refusal (BooksAtDesk h old new [] name name) tidied.receipt tidied.repeats refused
      (λ first is. was_refused (BooksAtDesk h old new [] name name) _ judged tidied.receipt first (sym arrives.in_seen ∙ is) refused)

  pub tidied_known : IfErr (outcome_of tidied.receipt tidied.repeats) (IfRepeat (IsKnownIn h new.seat.seen judged.channel judged.raw))
  tidied_known =
      of_repeat (IsKnownIn h new.seat.seen judged.channel judged.raw) tidied.receipt tidied.repeats
      (λ first is. refused_known h conn judged old new tidied first arrives is)
