-- By what rule a message is taken, and what is known of it then.
use Rattle.std.specs.Prelude.{◌≡◌, ℕ, List, ◌++◌, All}
use mathlib.Core.List.{IsPrefix}
use Rattle.event_log.specs.History.{History}
use Rattle.event_log.specs.declared.entry.Entry.TheVariants as entry
use Rattle.ghost_log.specs.Seats.{entries_of}
use Rattle.book_lock.specs.Durable.{IsDurableMessage}
use Rattle.book_lock.specs.Log.{IsReadOf, SeatView}
use Rattle.book_lock.specs.declared.log_entry.LogEntry.{LogEntry}
use Rattle.book_lock.specs.declared.log_entry.LogEntry.TheVariants as log
use Rattle.delivery_worker.specs.declared.taking.TakeRule.{TakeRule}
use Rattle.delivery_worker.specs.declared.taking.TakeRule.TheVariants as rule

-- By a rule, message n may be sent: where only durable messages are, its arrival is durable by what a seat has seen.
abbrev pub MayBeSent : TakeRule → History → SeatView → ℕ → Type 0
MayBeSent rule.Any opening seat n = Unit {0}
MayBeSent rule.Durable opening seat n =
    IsReadOf opening (λ book. IsDurableMessage opening book seat.seen n)

-- an entry of a seat is by a rule: a take only where its message may be sent
abbrev pub IsByRule : TakeRule → History → SeatView → LogEntry → Type 0
IsByRule r opening seat (log.Booked (entry.Take ticket now)) = MayBeSent r opening seat ticket.number
IsByRule r opening seat _ = Unit {0}

-- While its seat went on from one view to another, a station took messages by a rule: by what the seat has seen in the end,
-- each of them may be sent.
pub record TakesByRule (r : TakeRule) (opening : History) (old new : SeatView) : Type 0 where
  pub own : List LogEntry
  pub added : entries_of old.number new.seen ≡ entries_of old.number old.seen ++ own
  pub each : All (IsByRule r opening new) own
  pub number : new.number ≡ old.number
  pub onward : IsPrefix old.seen new.seen
