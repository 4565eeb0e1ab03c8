-- What is wrong with the receipts of the connections, and how a run ends.
use Rattle.std.specs.Prelude.{◌≡◌, ℕ, ◌++◌, ◌⊎◌, List, [], ◌∷◌, Option, None, Some, Result, Ok, Err, All, map, if◌then◌else◌, nat_lt}
use Rattle.std.specs.Global.{Vec}
use Rattle.std.specs.List.{filter_map, flat_map, zip}
use Rattle.std.specs.List.Sorted.{IsPermutation, IsStrictlyIncreasing}
use Rattle.plan_text.specs.Entries.{ChannelEntry}
use Rattle.book_core.specs.declared.receipt.Receipt.{Receipt}
use Rattle.book_lock.specs.Auditing.{IsFirstFault, receipts_due, unfolded}
use Rattle.book_lock.specs.Rises.{SharedBook}
use Rattle.book_lock.specs.declared.receipt_audit.AuditFault.{AuditFault}
use Rattle.book_lock.specs.declared.receipt_audit.AuditFault.TheVariants as audit
use Rattle.conn_worker.specs.declared.report.ServeReport.{ServeReport}
use Rattle.engine_report.specs.declared.fault.Fault.{Fault}
use Rattle.engine_report.specs.declared.fault.Fault.TheVariants as fault
use Rattle.engine_report.specs.declared.fault.Finding.{Finding}
use Rattle.engine_report.specs.declared.fault.Finding.TheVariants as finding

-- the name of what an audit found
abbrev pub finding_of : AuditFault → Finding
finding_of (audit.Missing place) = finding.Missing
finding_of (audit.Doubled place) = finding.Doubled
finding_of (audit.Differs place) = finding.Differs

-- what became of a connection, with its receipts
abbrev pub Served : Type 0
Served = ServeReport (Vec Receipt)

-- the receipts of all connections
abbrev pub receipts_in : List Served → List Receipt
receipts_in served = flat_map (λ r. r.receipts.items) served

-- the receipts of a connection are in the order in which they were booked
abbrev pub IsRising : Served → Type 0
IsRising r = IsStrictlyIncreasing (map (λ x. x.entry) r.receipts.items)

-- what is wrong with the receipts of the connections: without a closed book, that shares of it are missing; else what the
-- audit found first; else that those of a connection are out of order; else nothing
abbrev pub IsFinding : Option SharedBook → List Served → Option Finding → Type 0
IsFinding None served found = found ≡ Some finding.SharesMissing
IsFinding (Some closed) served None = IsPermutation (unfolded closed (receipts_in served)) (receipts_due closed) × All IsRising served
IsFinding (Some closed) served (Some finding.OutOfOrder) =
    IsPermutation (unfolded closed (receipts_in served)) (receipts_due closed) × (All IsRising served → ⊥)
IsFinding (Some closed) served (Some found) = (first : AuditFault) × IsFirstFault closed (receipts_in served) first × (found ≡ finding_of first)

-- the name of a channel whose door counted a fault
abbrev pub failed_channel : ChannelEntry × ℕ → Option (List ℕ)
failed_channel p = if nat_lt 0 p.1 then Some p.0.name else None

-- the channels of the doors that failed, by the faults that each counted, in the order of the plan
abbrev pub failed_channels : List ChannelEntry → List ℕ → List (List ℕ)
failed_channels channels faults = filter_map failed_channel (zip channels faults)

-- the fault that reports a finding
abbrev pub audit_faults : Option Finding → List Fault
audit_faults None = []
audit_faults (Some found) = fault.Audit found ∷ []

-- what is returned where each fault is printed before the next
abbrev pub last_told : Result (Unit {0}) Fault → List Fault → Result (Unit {0}) Fault
last_told before [] = before
last_told before (f ∷ fs) = last_told (Err f) fs

-- how a run ends: what is wrong with the receipts is reported last, before that the doors that failed, and before
-- these that the statistics couldn't be written
pub record Concludes (closed : Option SharedBook) (served : List Served) (failed : List Fault) (result : Result (Unit {0}) Fault) : Type 0 where
  pub found : Option Finding
  pub is_found : IsFinding closed served found
  pub written : Result (Unit {0}) Fault
  pub is_written : (written ≡ Ok tt) ⊎ (written ≡ Err fault.Write)
  pub last : result ≡ last_told written (failed ++ audit_faults found)
