-- What is counted of a log: its arrivals, its takes and its settlements, all of them and those of one seat.
use Rattle.std.specs.Prelude.{◌≡◌, ◌+◌, ◌<◌, ◌≤◌, ℕ, All, Bool, true, false, count_by}
use Rattle.dest_queue.specs.declared.Outcome.{Outcome}
use Rattle.dest_queue.specs.declared.SlotState.{SlotState}
use Rattle.event_log.specs.declared.entry.Entry.TheVariants.{Arrival, Take, Settle, Cancel, Deploy}
use Rattle.event_log.specs.declared.entry.Ticket.{Ticket}
use Rattle.book_core.specs.declared.receipt.Receipt.{Receipt}
use Rattle.ghost_log.specs.Seats.{entries_of}
use Rattle.book_lock.specs.declared.log_entry.LogEntry.{LogEntry}
use Rattle.book_lock.specs.declared.log_entry.LogEntry.TheVariants.{Booked, Pruned, Durable}
use Rattle.book_lock.specs.Log.{Log}

-- ---- entries

-- the entry of an arrival, by its receipt
abbrev pub arrival_entry : Receipt → LogEntry
arrival_entry receipt = Booked (Arrival receipt.conn receipt.channel receipt.raw receipt.told)

-- the entry of a take
abbrev pub take_entry : Ticket → ℕ → LogEntry
take_entry ticket now = Booked (Take ticket now)

-- the entry of a settlement
abbrev pub settlement_entry : Outcome → Ticket → ℕ → SlotState → LogEntry
settlement_entry outcome ticket now state = Booked (Settle outcome ticket now state)

-- whether an entry is an arrival
abbrev pub is_arrival : LogEntry → Bool
is_arrival (Booked (Arrival conn channel raw told)) = true
is_arrival (Booked (Take ticket now)) = false
is_arrival (Booked (Settle outcome ticket now state)) = false
is_arrival (Booked (Cancel number among mask)) = false
is_arrival (Booked (Deploy plan)) = false
is_arrival (Pruned before) = false
is_arrival (Durable below) = false

-- whether it is a take
abbrev pub is_take : LogEntry → Bool
is_take (Booked (Arrival conn channel raw told)) = false
is_take (Booked (Take ticket now)) = true
is_take (Booked (Settle outcome ticket now state)) = false
is_take (Booked (Cancel number among mask)) = false
is_take (Booked (Deploy plan)) = false
is_take (Pruned before) = false
is_take (Durable below) = false

-- whether it is a settlement
abbrev pub is_settlement : LogEntry → Bool
is_settlement (Booked (Arrival conn channel raw told)) = false
is_settlement (Booked (Take ticket now)) = false
is_settlement (Booked (Settle outcome ticket now state)) = true
is_settlement (Booked (Cancel number among mask)) = false
is_settlement (Booked (Deploy plan)) = false
is_settlement (Pruned before) = false
is_settlement (Durable below) = false

-- ---- counts

-- the entries of one kind that the seat with this number added
abbrev pub count_of : (LogEntry → Bool) → ℕ → Log → ℕ
count_of kind number log = count_by kind (entries_of number log)

-- all entries of one kind
abbrev pub count_in : (LogEntry → Bool) → Log → ℕ
count_in kind log = count_by (λ x. kind x.1) log

-- ---- who adds what

-- Arrivals have the numbers of desks, and takes and settlements those of stations, which follow them.
pub record IsManned (desks stations : ℕ) (entries : Log) : Type 0 where
  pub arrivals : All (λ x. is_arrival x.1 ≡ true → x.0 < desks) entries
  pub takes : All (λ x. is_take x.1 ≡ true → (desks ≤ x.0) × (x.0 < desks + stations)) entries
  pub settlements : All (λ x. is_settlement x.1 ≡ true →
      (desks ≤ x.0) × (x.0 < desks + stations)) entries
