-- How many messages of a connection were booked, by what became of them.
use Rattle.std.specs.Prelude.{◌≡◌, ◌-◌, ◌^◌, ℕ, Bool, List, min, count_by}
use Rattle.book_core.specs.declared.receipt.Receipt.{Receipt}
use Rattle.event_log.specs.declared.entry.Told.{Told}
use Rattle.event_log.specs.Counting.{is_accepted, is_filtered, is_refused, is_repeat}
use Rattle.service_workers.specs.declared.kinds.KindCounts.{KindCounts}

-- the receipts whose messages are of a kind, up to the greatest count
abbrev pub count_of : (Told → Bool) → List Receipt → ℕ
count_of so receipts = min (count_by (λ r. so r.told) receipts) (2 ^ 64 - 1)

pub record AreKinds (counts : KindCounts) (receipts : List Receipt) : Type 0 where
  pub accepted : counts.accepted ≡ count_of is_accepted receipts
  pub filtered : counts.filtered ≡ count_of is_filtered receipts
  pub refused : counts.refused ≡ count_of is_refused receipts
  pub repeats : counts.repeats ≡ count_of is_repeat receipts
