-- What an arrival does about a book that is tight or has no room for it.
use Rattle.std.specs.Prelude.{◌≡◌, ◌≤◌, ◌<◌, ◌⊎◌, ◌*◌, ◌&&◌, ℕ, Bool, Option, Result, Ok, Err, None, Some, IsErrOf, true, false, length, nat_le, nat_lt}
use Rattle.event_log.specs.History.{History}
use Rattle.event_log.specs.Room.{is_full}
use Rattle.event_log.specs.declared.refusal.PruneRefusal.{PruneRefusal}
use Rattle.event_log.specs.declared.refusal.PruneRefusal.TheVariants.{NoMemory, TooMany}
use Rattle.event_log.specs.Folding.{prune_answer, pruned}
use Rattle.judge_core.specs.declared.judged.Judged.{Judged}
use Rattle.book_core.specs.Receiving.{repeat_of}
use Rattle.book_core.specs.declared.receipt.NotBooked.{NotBooked}
use Rattle.book_core.specs.declared.receipt.NotBooked.TheVariants.{Full, PlanChanged}
use Rattle.book_core.specs.declared.receipt.NotBooked.TheVariants.{NoMemory as OutOfMemory}
use Rattle.book_core.specs.declared.receipt.Receipt.{Receipt}
use Rattle.book_core.specs.inner.Questions.{is_tight, settled_before}
use Rattle.book_lock.specs.declared.crowding.Crowded.{Crowded}
use Rattle.book_lock.specs.declared.tidying.Tidied.{Tidied}
use Rattle.book_lock.specs.declared.tidying.Tidying.{Tidying}
use Rattle.book_lock.specs.declared.tidying.Tidying.TheVariants.{NotTight, Pruned, Refused}
use Rattle.book_lock.specs.Crowding.{crowded_route}
use Rattle.book_lock.specs.Log.{IsTidiedInLog, after_log, book_at, IsReadOf}
use Rattle.book_lock.specs.Rises.{SharedBook}
use Rattle.book_lock.specs.Shares.{DeskView}
use Rattle.book_lock.specs.inner.Arriving.{ArrivesAtBook, ArrivesAtDesk}
use Rattle.book_lock.specs.inner.Rises.{with_book}

-- the outcome of a pruning
abbrev pub tidying_of : Result ℕ PruneRefusal → Tidying
tidying_of (Ok before) = Pruned before
tidying_of (Err refusal) = Refused refusal

-- the shared book that it leaves
abbrev pub left_by : SharedBook → Tidying → SharedBook
left_by h NotTight = h
left_by h (Pruned before) = with_book h (pruned before h.book)
left_by h (Refused refusal) = h

-- why what is settled is not forgotten: a thousand prunings were made, or memory is refused where fewer were
abbrev pub IsSettledRefusal : SharedBook → PruneRefusal → Type 0
IsSettledRefusal h e = ((e ≡ TooMany) × (1000 ≤ h.book.opening.prunings)) ⊎ ((e ≡ NoMemory) × (h.book.opening.prunings < 1000))

-- the number before which all is forgotten where what is settled is, but for the last messages or for none
abbrev pub IsSettledBefore : ℕ → SharedBook → ℕ → Type 0
IsSettledBefore keep h before = (before ≡ settled_before keep h.book) ⊎ (before ≡ settled_before 0 h.book)

-- what a pruning that is to be made comes to: what is settled is forgotten, or that is refused
abbrev pub IsPruning : ℕ → SharedBook → Tidying → Type 0
IsPruning keep h NotTight = ⊥
IsPruning keep h (Pruned before) = (prune_answer h.book before ≡ None) × IsSettledBefore keep h before
IsPruning keep h (Refused refusal) = IsSettledRefusal h refusal

-- what is done about a book that may be tight: nothing where it is not; else what is settled is forgotten, or that is refused
abbrev pub IsTidying : ℕ → SharedBook → Tidying → Type 0
IsTidying keep h NotTight = is_tight h.book ≡ false
IsTidying keep h (Pruned before) = (is_tight h.book ≡ true) × IsSettledBefore keep h before
IsTidying keep h (Refused refusal) = (is_tight h.book ≡ true) × IsSettledRefusal h refusal

-- ---- where there is no room

-- at least a sixty-fourth of the bound is entries, and so a pruning would free, which frees all of them
abbrev pub is_worth_pruning : History → Bool
is_worth_pruning h = nat_lt 0 (length h.entries) && nat_le h.opening.events_max (64 * length h.entries)

-- a pruning is called for: the book is tight, or it has no room for an arrival where a pruning frees enough
abbrev pub CallsForPruning : Judged → History → Type 0
CallsForPruning judged h =
    (is_tight h ≡ true) ⊎ ((is_full h judged.channel judged.raw ≡ true) × (is_worth_pruning h ≡ true))

-- what an arrival does about it: nothing, or what is settled is forgotten where a pruning is called for, or that is refused
abbrev pub IsTidyingFor : ℕ → Judged → SharedBook → Tidying → Type 0
IsTidyingFor keep judged h NotTight = is_tight h.book ≡ false
IsTidyingFor keep judged h (Pruned before) = CallsForPruning judged h.book × IsSettledBefore keep h before
IsTidyingFor keep judged h (Refused refusal) = CallsForPruning judged h.book × IsSettledRefusal h refusal

-- no room can be made: a pruning would free less than a sixty-fourth of the bound, or a thousand were made, or memory was
-- refused for one
abbrev pub IsOutOfRoom : History → Tidying → Type 0
IsOutOfRoom h tidying =
    (is_worth_pruning h ≡ false) ⊎ (1000 ≤ h.opening.prunings) ⊎ (tidying ≡ Refused NoMemory)

-- ---- where it is refused for lack of room

-- The index of the arrival that a message repeats which was refused since the book is full: the book has its key (the channel
-- and MSH-10) with these very bytes. Any other message has none.
abbrev pub unbooked_repeat : History → Judged → Result Receipt NotBooked → Option ℕ
unbooked_repeat h judged (Err Full) = repeat_of h judged.channel judged.raw
unbooked_repeat h judged (Err OutOfMemory) = None
unbooked_repeat h judged (Err PlanChanged) = None
unbooked_repeat h judged (Ok receipt) = None

-- ---- what an arrival comes to

-- An arrival that was booked, or refused as a book does, after what was done about the book. No route of its channel leads to
-- a crowded destination of the book that this left. It is refused as Full only where no room can be made, and then it is said
-- which arrival it repeats, if it does. The call of its desk is made at the moment of that book.
pub record ArrivesTidied (opening : History) (keep conn : ℕ) (judged : Judged) (old new : SharedBook) (desk desk' : DeskView)
    (tidied : Tidied) : Type 0 where
  pub tidying : IsTidyingFor keep judged old tidied.tidying
  pub in_log : IsTidiedInLog opening tidied.tidying
  pub free : crowded_route (left_by old tidied.tidying).book judged.channel ≡ None
  pub booked : ArrivesAtBook conn judged (left_by old tidied.tidying) new tidied.receipt
  pub full : IsErrOf tidied.receipt Full → IsOutOfRoom (left_by old tidied.tidying).book tidied.tidying
  pub repeats : tidied.repeats ≡ unbooked_repeat new.book judged tidied.receipt
  pub at_desk : ArrivesAtDesk opening conn judged desk desk' tidied.receipt
  pub moment : book_at opening desk.seat at_desk.call.call.others ≡ (left_by old tidied.tidying).book

-- An arrival that was neither booked nor refused: the first crowded destination of its channel's routes is named. It leaves
-- the book as it was, but for what was done where that was tight.
pub record IsHeldBack (opening : History) (keep : ℕ) (judged : Judged) (old new : SharedBook) (crowded : Crowded) : Type 0 where
  pub tidying : IsTidying keep old crowded.tidying
  pub in_log : IsTidiedInLog opening crowded.tidying
  pub left : new ≡ left_by old crowded.tidying
  pub route : crowded_route new.book judged.channel ≡ Some crowded.destination

-- ---- the same, as those see it who share the book

-- At the moment of the call no route of the channel leads to a crowded destination; and it is refused as Full only where no
-- room can be made. Where it is, it is said which arrival it repeats, if it does: one that the book then has, and so one of what
-- the desk has seen after the call.
pub record ArrivesAtTidied (opening : History) (conn : ℕ) (judged : Judged) (desk desk' : DeskView) (tidied : Tidied) : Type 0 where
  pub in_log : IsTidiedInLog opening tidied.tidying
  pub at_desk : ArrivesAtDesk opening conn judged desk desk' tidied.receipt
  pub free : crowded_route (book_at opening desk.seat at_desk.call.call.others) judged.channel ≡ None
  pub full : IsErrOf tidied.receipt Full → IsOutOfRoom (book_at opening desk.seat at_desk.call.call.others) tidied.tidying
  pub repeats : tidied.repeats ≡ unbooked_repeat (book_at opening desk.seat at_desk.call.call.others) judged tidied.receipt
  pub in_seen : tidied.repeats ≡ unbooked_repeat (after_log opening desk'.seat.seen) judged tidied.receipt

-- the first crowded destination of a channel's routes is named, as the book has it at some moment
pub record IsHeldBackAt (opening : History) (channel : ℕ) (crowded : Crowded) : Type 0 where
  pub in_log : IsTidiedInLog opening crowded.tidying
  pub route : IsReadOf opening (λ book. crowded_route book channel ≡ Some crowded.destination)
