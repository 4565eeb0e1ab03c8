-- What a book keeps beside its history, and how it agrees with it.
use Rattle.std.specs.Prelude.{◌≡◌, ◌<◌, ◌≤◌, ℕ, List, Some}
use Rattle.std.specs.List.{AllByRecursion}
use Rattle.row_store.specs.declared.Row.{Row}
use Rattle.row_store.specs.Rows.{row_numbers as numbers_of, is_in_queue}
use Rattle.dest_queue.specs.declared.slots.Queued.{Queued}
use Rattle.dest_queue.specs.inner.SlotsBy.{slots_by}
use Rattle.dup_index.specs.inner.Known.{Known, place_of}
use Rattle.stat_count.specs.Statistics.{Statistics}
use Rattle.event_log.specs.History.{History, control_id, deliveries, is_queued, message_at, remaining, state}
use Rattle.event_log.specs.inner.History.{named}
use Rattle.event_log.specs.Answers.{known}
use Rattle.event_log.specs.inner.Room.{in_flight}
use Rattle.event_log.specs.inner.Legal.{IsSound}
use Rattle.book_core.specs.declared.letter.Outbound.{Outbound}
use Rattle.book_core.specs.inner.Counting.{AreCounted}

-- the row of a message is what the history says of it: its slots, the queues that it is in, and what is sent
pub record IsAsTold (h : History) (row : Row (Queued Outbound)) : Type 0 where
  pub slots : row.item.slots ≡ slots_by (state h row.number) (named h row.number)
  pub queues : (d : ℕ) → d < 32 → is_in_queue d row ≡ is_queued h d row.number
  pub control_id : row.item.content.control_id ≡ control_id h row.number
  pub deliveries : row.item.content.deliveries ≡ deliveries h row.number
  pub came : message_at h row.number
      ≡ Some (record { channel = row.item.content.channel; raw = row.item.content.raw; deliveries = row.item.content.deliveries })

-- the rows are the messages that are not forgotten, each once and in order of acceptance
pub record RowsAgree (h : History) (rows : List (Row (Queued Outbound))) : Type 0 where
  pub each_once : numbers_of rows ≡ remaining h
  pub as_told : AllByRecursion (IsAsTold h) rows

-- the index finds each key where the history has it
abbrev pub KeysAgree : History → List Known → Type 0
KeysAgree h index = (key : List ℕ) → place_of key index ≡ known h key

-- each part of a book agrees with the history
pub record IsKept (h : History) (rows : List (Row (Queued Outbound))) (index : List Known) (tally : Statistics) (flights room : ℕ) : Type 0 where
  pub sound : IsSound h
  pub rows_agree : RowsAgree h rows
  pub keys_agree : KeysAgree h index
  pub are_counted : AreCounted h tally
  pub flights_are : flights ≡ in_flight h
  pub reserved : in_flight h ≤ room
  pub bound : h.opening.events_max ≤ 1000000
