-- Why decoding stopped, as the fault of an opening.
use Rattle.std.specs.Prelude.{ℕ}
use Rattle.event_records.specs.declared.fault.RecordFault.{RecordFault}
use Rattle.event_records.specs.declared.fault.RecordFault.TheVariants as record_fault
use Rattle.event_records.specs.declared.fault.ReadError.{ReadError}
use Rattle.event_records.specs.declared.fault.ReadError.TheVariants as read_error
use Rattle.opening_records.specs.declared.fault.Reason.{Reason}
use Rattle.opening_records.specs.declared.fault.Reason.TheVariants as reason
use Rattle.opening_records.specs.declared.fault.OpeningFault.{OpeningFault}
use Rattle.opening_records.specs.declared.fault.OpeningFault.TheVariants.{NoMemory, NotAnOpening}

abbrev pub reason_of : RecordFault → Reason
reason_of record_fault.Truncated = reason.Truncated
reason_of record_fault.Unknown = reason.Unknown

-- the fault of a part at this offset
abbrev pub fault_at : ℕ → ReadError → OpeningFault
fault_at at read_error.NoMemory = NoMemory
fault_at at (read_error.Fault fault) = NotAnOpening at (reason_of fault)
