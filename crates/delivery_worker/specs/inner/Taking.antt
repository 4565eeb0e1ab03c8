-- What proofs use beside the page Taking.
use Rattle.std.specs.Prelude.{◌≡◌, ℕ, Result, Err}
use mathlib.Core.List.{IsPrefix}
use Rattle.event_log.specs.History.{History}
use Rattle.event_log.specs.declared.refusal.TakeRefusal.{TakeRefusal}
use Rattle.book_core.specs.declared.letter.Job.{Job}
use Rattle.ghost_log.specs.Seats.{entries_of}
use Rattle.book_lock.specs.Log.{Looks, SeatView, Takes}
use Rattle.book_lock.specs.declared.durable.TakeDurableRefusal.{TakeDurableRefusal}
use Rattle.book_lock.specs.declared.durable.TakeDurableRefusal.TheVariants.{NotDurable, Refused}
use Rattle.delivery_worker.specs.declared.taking.TakeRule.{TakeRule}
use Rattle.delivery_worker.specs.declared.taking.TakeRule.TheVariants as rule

-- A take, before which the seat may have looked at the book.
pub record TakesAfterLook (opening : History) (d now : ℕ) (old new : SeatView)
    (result : Result Job TakeRefusal) : Type 0 where
  pub begin : SeatView
  pub number : begin.number ≡ old.number
  pub after : IsPrefix old.seen begin.seen
  pub none_own : entries_of old.number begin.seen ≡ entries_of old.number old.seen
  pub takes : Takes opening d now begin new result

-- The first message of queue d was not taken: where the rule is that it has to be durable, by a look at the book, else since
-- the book refused the take.
abbrev pub IsNotTakenBy : TakeRule → History → ℕ → ℕ → SeatView → SeatView → TakeDurableRefusal → Type 0
IsNotTakenBy r opening d now old new NotDurable = (r ≡ rule.Durable) × Looks opening old new
IsNotTakenBy r opening d now old new (Refused refusal) =
    TakesAfterLook opening d now old new (Err refusal)
