-- The audit: the receipts that were handed out, against the arrivals of the history.
use Rattle.std.specs.Prelude.{◌≡◌, ◌≢◌, ℕ, ◌-◌, ◌<◌, ◌==◌, Bool, false, not, ◌&&◌, nat_lt, List, [], Option, Some, None, length, option_and_then}
use Rattle.std.specs.List.{filter, filter_map, range_with_len}
use Rattle.event_log.specs.declared.entry.Entry.{Entry}
use Rattle.event_log.specs.declared.entry.Entry.TheVariants.{Arrival, Take, Settle, Cancel, Deploy}
use Rattle.event_log.specs.History.{entry_at, next_place}
use Rattle.book_core.specs.declared.receipt.Receipt.{Receipt}
use Rattle.book_lock.specs.declared.receipt_audit.AuditFault.{AuditFault}
use Rattle.book_lock.specs.declared.receipt_audit.AuditFault.TheVariants.{Missing, Doubled, Differs}
use Rattle.book_lock.specs.Rises.{SharedBook}

-- the receipt of an entry at this index, if it is an arrival
abbrev pub receipt_at : ℕ → Entry → Option Receipt
receipt_at place (Arrival conn channel raw told) = Some (record { entry = place; conn = conn; channel = channel; raw = raw; told = told })
receipt_at place (Take ticket now) = None
receipt_at place (Settle outcome ticket now state) = None
receipt_at place (Cancel number among mask) = None
receipt_at place (Deploy plan) = None

-- the receipt that is due at an index of the history: that of its arrival
abbrev pub receipt_due : SharedBook → ℕ → Option Receipt
receipt_due h place = option_and_then (receipt_at place) (entry_at h.book place)

-- the receipts of the arrivals since the book was shared, in order; that of a folded one is not due
abbrev pub receipts_due : SharedBook → List Receipt
receipts_due h = filter_map (receipt_due h) (range_with_len h.first (next_place h.book - h.first))

-- whether an index was folded since the book was shared
abbrev pub is_folded : SharedBook → ℕ → Bool
is_folded h place = not (nat_lt place h.first) && nat_lt place h.book.opening.places

-- the receipts without those that name a folded index
abbrev pub unfolded : SharedBook → List Receipt → List Receipt
unfolded h receipts = filter (λ r. not (is_folded h r.entry)) receipts

-- the receipts that name an index
abbrev pub naming : ℕ → List Receipt → List Receipt
naming place receipts = filter (λ r. r.entry == place) receipts

-- the index of a fault
abbrev pub fault_place : AuditFault → ℕ
fault_place (Missing place) = place
fault_place (Doubled place) = place
fault_place (Differs place) = place

-- the receipts that name an index are those that are due there, if it isn't folded
abbrev pub IsRightAt : SharedBook → List Receipt → ℕ → Type 0
IsRightAt h receipts place = is_folded h place ≡ false → naming place receipts ≡ naming place (receipts_due h)

-- a fault is at an index that isn't folded
abbrev pub IsUnfolded : SharedBook → AuditFault → Type 0
IsUnfolded h fault = is_folded h (fault_place fault) ≡ false

-- what is wrong with the receipts that name the fault's index
abbrev pub IsFault : SharedBook → List Receipt → AuditFault → Type 0
IsFault h receipts (Missing place) = (naming place receipts ≡ []) × (naming place (receipts_due h) ≢ [])
IsFault h receipts (Doubled place) = 1 < length (naming place receipts)
IsFault h receipts (Differs place) = (length (naming place receipts) ≡ 1) × (naming place receipts ≢ naming place (receipts_due h))

-- it is the first: at each index before it that isn't folded, the receipts are those that are due
abbrev pub IsFirstFault : SharedBook → List Receipt → AuditFault → Type 0
IsFirstFault h receipts fault = (IsFault h receipts fault × IsUnfolded h fault) × ((p : ℕ) → p < fault_place fault → IsRightAt h receipts p)
