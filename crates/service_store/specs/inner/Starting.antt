-- What a start makes of a store and of its book.
use Rattle.std.specs.Prelude.{◌≡◌, ◌≢◌, ◌≤◌, ◌-◌, ◌==◌, ◌&&◌, ◌||◌, ℕ, Bool, true, false, not, nat_le, nat_lt, List, [], length, map, Option, None, Some, Err}
use Rattle.std.specs.List.{filter_map}
use Rattle.sqlite_trees.specs.Tree.{Trees}
use Rattle.sqlite_trees.specs.View.{View, IsClean}
use Rattle.fixed_numbers.specs.declared.book.TheConstants.{EVENTS_MAX}
use Rattle.plan_text.specs.Entries.{PlanEntry}
use Rattle.event_log.specs.declared.entry.Ticket.{Ticket}
use Rattle.event_log.specs.declared.refusal.DeployRefusal.{DeployRefusal}
use Rattle.event_log.specs.History.{History, plan_in_force}
use Rattle.event_log.specs.Event.{answer, deploy}
use Rattle.event_records.specs.declared.record.Record.{Record}
use Rattle.event_store.specs.declared.columns.StoredRecord.{StoredRecord}
use Rattle.event_store.specs.Records.{contents_in, contents_of, records_in}
use Rattle.book_replay.specs.Replay.{AreReplayed, after_records}
use Rattle.book_replay.specs.inner.Flights.{flights, settled_again}
use Rattle.book_recovery.specs.Adopted.{IsAdopted}
use Rattle.book_recovery.specs.Interrupting.{failed_in, flying}
use Rattle.book_recovery.specs.declared.next.NextFault.TheVariants.{NoMemory as NextNoMemory, TooLong, NotGood, UsedUp}
use Rattle.service_store.specs.declared.fault.NextError.{NextError}
use Rattle.service_store.specs.declared.fault.NextError.TheVariants as next
use Rattle.service_store.specs.declared.open.NextFile.{NextFile}
use Rattle.service_store.specs.declared.open.NextFile.TheVariants as file
use Rattle.service_store.specs.declared.start.OnFlights.{OnFlights}
use Rattle.service_store.specs.declared.start.OnFlights.TheVariants.{Leave, Settle}

-- the bodies of the records of a database
abbrev pub bodies_in : Trees → List (List ℕ)
bodies_in db = map (λ row. row.body) (records_in db)

-- these rows were read, and no others are in the store
abbrev pub AreReadOf : View → List StoredRecord → Type 0
AreReadOf v rows = IsClean v → map contents_of rows ≡ contents_in v.trees

-- records lead from one history to another, and a replay of them stops at none
pub record AreBooked (old new : History) (rs : List Record) : Type 0 where
  pub history : new ≡ after_records old rs
  pub replayed : AreReplayed old rs

-- the plan of a start is in force then, or the sequential engine refuses it and nothing changes
abbrev pub IsPlanned : PlanEntry → History → History → Option DeployRefusal → Type 0
IsPlanned plan old new None =
    (plan_in_force new ≡ plan) × ((deployment : Option Record) × IsAdopted plan old new deployment)
IsPlanned plan old new (Some refusal) =
    (new ≡ old) × (plan_in_force old ≢ plan) × (answer old (deploy plan) ≡ Err refusal)

-- the settlements of the attempts that are in flight, at this moment: none where they stay in flight, and else one of each, as one
-- to be made again
abbrev pub settlements : OnFlights → ℕ → History → List Record
settlements Leave now h = []
settlements Settle now h = map (settled_again now) (flights h)

-- the plan of a start is dealt with, and then the attempts that are in flight, at this moment or later
pub record IsCaughtUp (how : OnFlights) (plan : PlanEntry) (asked : ℕ) (old new : History) (kept : Option DeployRefusal)
    (interrupted : ℕ) (failed : List Ticket) : Type 0 where
  pub planned : History
  pub deployed : IsPlanned plan old planned kept
  pub now : ℕ
  pub not_before : asked ≤ now
  pub settled : new ≡ after_records planned (settlements how now planned)
  pub booked : List Record
  pub history : new ≡ after_records planned booked
  pub count : interrupted ≡ length booked
  -- those whose messages have failed with them are named
  pub named : failed ≡ filter_map (failed_in new) booked

-- a store in which so many records were found goes on in a new file: its book may hold another number of entries than is asked for,
-- or a message is in flight, or 100,000 records or more were found, and the book was pruned fewer than 900 times
abbrev pub is_followed : History → ℕ → ℕ → Bool
is_followed h found asked =
    not (h.opening.events_max == asked) || (nat_lt 0 (flying h) || (nat_le 100000 found && nat_lt h.opening.prunings 900))

-- no start can begin a new file for it, where messages of a book of this bound are in flight at so many destinations: the book is
-- pruned as often as it can be, or what is owed then may be past the greatest bound
abbrev pub is_never_followed : NextError → ℕ → ℕ → Bool
is_never_followed next.NoMemory bound flying = false
is_never_followed (next.Book NotGood) bound flying = nat_lt (EVENTS_MAX - bound) flying
is_never_followed (next.Book NextNoMemory) bound flying = false
is_never_followed (next.Book TooLong) bound flying = false
is_never_followed (next.Book UsedUp) bound flying = false
is_never_followed (next.Prune refusal) bound flying = true
is_never_followed (next.Disk error) bound flying = false
is_never_followed next.NotAStore bound flying = false
is_never_followed (next.File error) bound flying = false

-- a store goes on without a new file, for this reason: the command line asks for its bound, and nothing is in flight, or no start can
-- begin one for it
abbrev pub may_stay : NextError → ℕ → ℕ → ℕ → Bool
may_stay error bound asked flying = (bound == asked) && ((flying == 0) || is_never_followed error bound flying)

-- what a start makes of a store with this bound, where the command line asks for another and so much is in flight
abbrev pub may_be_next : NextFile → ℕ → ℕ → ℕ → Bool
may_be_next file.Kept bound asked flying = true
may_be_next (file.Begun archived flights) bound asked flying = true
may_be_next (file.Stayed error) bound asked flying = may_stay error bound asked flying
