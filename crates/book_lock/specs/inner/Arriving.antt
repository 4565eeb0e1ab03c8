-- An arrival, as it changes the book behind the lock and the desk at which it is booked.
use Rattle.std.specs.Prelude.{◌≡◌, ◌≢◌, ◌↔◌, ℕ, ◌+◌, Result, IfOk, IsErrOf, OnErr, OnOk}
use Rattle.judge_core.specs.declared.judged.Judged.{Judged}
use Rattle.event_log.specs.Event.{Does, MemoryIsLast, arrive}
use Rattle.event_log.specs.History.{History, next_place, plan_in_force}
use Rattle.book_core.specs.Receiving.{IsReceipt, arrival_reply}
use Rattle.book_core.specs.declared.receipt.NotBooked.{NotBooked}
use Rattle.book_core.specs.declared.receipt.NotBooked.TheVariants as not_booked
use Rattle.book_core.specs.declared.receipt.Receipt.{Receipt}
use Rattle.book_lock.specs.Log.{Arrives, SeatView, book_at}
use Rattle.book_lock.specs.Rises.{SharedBook}
use Rattle.book_lock.specs.Shares.{DeskView}
use Rattle.book_lock.specs.inner.Rises.{with_book}

-- an arrival at the book behind the lock, which changes as a book does
pub record ArrivesAtBook (conn : ℕ) (judged : Judged) (old new : SharedBook)
    (result : Result Receipt NotBooked) : Type 0 where
  pub does : Does (arrive conn judged.channel judged.raw) old.book new.book (arrival_reply result)
  pub memory : MemoryIsLast (arrive conn judged.channel judged.raw) old.book (arrival_reply result)
  pub book : new ≡ with_book old new.book
  pub receipt : IfOk result (IsReceipt (next_place old.book) conn judged.channel judged.raw)
  pub plan : IsErrOf result not_booked.PlanChanged ↔ judged.plan ≢ plan_in_force old.book
  pub same_plan : IsErrOf result not_booked.Full → judged.plan ≡ plan_in_force old.book

-- an arrival, as a seat sees it: the call is made at the moment of this book
pub record ArrivesHere (opening : History) (conn : ℕ) (judged : Judged) (book : History) (old new : SeatView)
    (result : Result Receipt NotBooked) : Type 0 where
  pub arrives : Arrives opening conn judged old new result
  pub moment : book_at opening old arrives.call.others ≡ book

-- an arrival at a desk: the receipt says what arrived, and the desk counts it
pub record ArrivesAtDesk (opening : History) (connection : ℕ) (judged : Judged) (old new : DeskView)
    (result : Result Receipt NotBooked) : Type 0 where
  pub conn : IfOk result (λ receipt. receipt.conn ≡ connection)
  pub channel : IfOk result (λ receipt. receipt.channel ≡ judged.channel)
  pub raw : IfOk result (λ receipt. receipt.raw ≡ judged.raw)
  pub call : Arrives opening connection judged old.seat new.seat result
  pub counted : OnOk result (new.made ≡ old.made + 1)
  pub refused : OnErr result (new.made ≡ old.made)
