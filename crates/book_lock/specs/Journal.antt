-- What a journal copies of a shared book, in terms of the one log.
use Rattle.std.specs.Prelude.{◌≡◌, List, [], ◌++◌, map}
use Rattle.event_log.specs.declared.entry.Entry.TheVariants as entry
use Rattle.event_log.specs.History.{History}
use Rattle.ghost_log.specs.Seats.{entries_of}
use Rattle.book_lock.specs.declared.copied.Copied.{Copied}
use Rattle.book_lock.specs.declared.copied.Copied.TheVariants.{Arrival, Take, Settle, Cancel, Deploy, Prune}
use Rattle.book_lock.specs.declared.log_entry.LogEntry.{LogEntry}
use Rattle.book_lock.specs.declared.log_entry.LogEntry.TheVariants as log
use Rattle.book_lock.specs.Durable.{changes_of}
use Rattle.book_lock.specs.Log.{IsLegalLog, Log, SeatView}

-- the change that a copy is of
abbrev pub change_copied : Copied → LogEntry
change_copied (Arrival conn channel raw told) = log.Booked (entry.Arrival conn channel raw told)
change_copied (Take ticket now) = log.Booked (entry.Take ticket now)
change_copied (Settle outcome ticket now state) = log.Booked (entry.Settle outcome ticket now state)
change_copied (Cancel number among mask) = log.Booked (entry.Cancel number among mask)
change_copied (Deploy plan) = log.Booked (entry.Deploy plan)
change_copied (Prune before) = log.Pruned before

-- A reader has seen more of the log, none of it its own, and has copied each change in that, in order, behind those that it
-- had copied.
pub record Copies (opening : History) (old new : SeatView) (copied : List Copied) : Type 0 where
  pub number : new.number ≡ old.number
  pub others : Log
  pub none_own : entries_of old.number others ≡ []
  pub seen : new.seen ≡ old.seen ++ others
  pub legal : IsLegalLog opening new.seen
  pub are : changes_of others ≡ map change_copied copied
  pub changes : changes_of new.seen ≡ changes_of old.seen ++ map change_copied copied
