-- What a book is given, one receipt after the other.
use Rattle.std.specs.Prelude.{◌≡◌, ⊤, ℕ, Err, List, ◌++◌, length, map, Result, IsTrue, IsErrOf, ◌≢◌, ◌↔◌, Some}
use Rattle.std.specs.List.{range_with_len}
use Rattle.std.specs.Result.{IfOk}
use Rattle.conn_core.specs.declared.booking.Unbooked.{Unbooked}
use Rattle.conn_core.specs.declared.booking.Unbooked.TheVariants.{Refused, Repeat}
use Rattle.book_core.specs.declared.receipt.NotBooked.TheVariants.{Full, PlanChanged}
use Rattle.book_core.specs.declared.receipt.Receipt.{Receipt}
use Rattle.event_log.specs.Answers.{arrival_answer}
use Rattle.event_log.specs.History.{History, next_place, plan_in_force}
use Rattle.event_log.specs.Room.{is_full}
use Rattle.event_log.specs.declared.entry.Entry.{Entry}
use Rattle.event_log.specs.declared.entry.Entry.TheVariants.{Arrival}
use Rattle.event_log.specs.declared.entry.Told.{Told}
use Rattle.judge_core.specs.Judging.{Judgement}

-- the entry of an arrival that a receipt is of
abbrev pub arrival_by : Receipt → Entry
arrival_by r = Arrival r.conn r.channel r.raw r.told

-- The book was given the arrivals of these receipts, in order and right behind what it held, and nothing else.
pub record Books (old new : History) (receipts : List Receipt) : Type 0 where
  pub history : new ≡ record old { entries = old.entries ++ map arrival_by receipts }
  pub places : map (λ r. r.entry) receipts ≡ range_with_len (next_place old) (length receipts)

-- what holds where a message is answered as a repeat without being booked
abbrev pub IfRepeat : Type 0 → Unbooked → Type 0
IfRepeat Known (Refused refusal) = ⊤
IfRepeat Known (Repeat place) = Known

-- What becomes of a message: it gets the answer of the history, or is refused: because it was judged by another plan than
-- the one in force, exactly where it was; then because there is no room, exactly where there is none; or because memory is
-- refused. None is answered as a repeat without being booked.
pub record OutcomeAtBook (book : History) (judged : Judgement) (outcome : Result Told Unbooked) : Type 0 where
  pub told : IfOk outcome (λ told. arrival_answer book judged.channel judged.raw ≡ Some told)
  pub plan : IsErrOf outcome (Refused PlanChanged) ↔ judged.plan ≢ plan_in_force book
  pub full : IsErrOf outcome (Refused Full) ↔ (judged.plan ≡ plan_in_force book) × IsTrue (is_full book judged.channel judged.raw)
  pub booked : (place : ℕ) → outcome ≢ Err (Repeat place)
