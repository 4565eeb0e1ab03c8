-- How the program ends.
use Rattle.std.specs.Prelude.{◌≡◌, ◌≢◌, ◌⊎◌, ℕ, Result, Ok, Err}
use Rattle.clap.specs.Words.{kind_of}
use Rattle.clap.specs.declared.error.Error.{Error}
use Rattle.clap.specs.declared.error.kind.ErrorKind.TheVariants as kind
use Rattle.plan_text.specs.Entries.{PlanEntry}
use Rattle.plan_text.specs.declared.fault.PlanFaultKind.TheVariants as name
use Rattle.plan_text.specs.declared.fault.PlanFault.{PlanFault}
use Rattle.engine_report.specs.declared.fault.Fault.{Fault}
use Rattle.engine_report.specs.declared.fault.Fault.TheVariants as fault
use Rattle.conn_worker.specs.declared.report.ServeEnd.{ServeEnd}
use Rattle.conn_worker.specs.declared.report.ServeEnd.TheVariants as end

-- the exit status: 1 of a faulty plan, 2 of words that aren't taken or request too much, 3 of a file, a device or memory,
-- 4 of an audit
abbrev pub status_of : Fault → ℕ
status_of (fault.Plan _) = 1
status_of (fault.Words _) = 2
status_of fault.NoText = 2
status_of fault.Limit = 2
status_of (fault.Audit _) = 4
status_of _ = 3

-- the fault that is reported where serving ends otherwise than at the reader's end
abbrev pub fault_of_end : ServeEnd → Fault
fault_of_end end.WriteFault = fault.Write
fault_of_end end.NotPersisted = fault.Write
fault_of_end end.NoMemory = fault.Memory
fault_of_end _ = fault.Read

-- the fault of the words of the command line that were not taken: memory, exactly where the parser lacked it
pub record IsFaultOfWords (error : Error) (told : Fault) : Type 0 where
  pub memory : kind_of error ≡ kind.OutOfMemory → told ≡ fault.Memory
  pub words : kind_of error ≢ kind.OutOfMemory → told ≡ fault.Words error

-- the fault of a plan that was not read: memory, exactly where it was refused
pub record IsFaultOfPlan (error : PlanFault) (told : Fault) : Type 0 where
  pub memory : error.name ≡ name.NoMemory → told ≡ fault.Memory
  pub plan : error.name ≢ name.NoMemory → told ≡ fault.Plan error

-- the result of reading a plan: the plan, or the fault that is reported of its first fault; memory may be refused
-- instead of any
abbrev pub TellsRead : Result PlanEntry PlanFault → Result PlanEntry Fault → Type 0
TellsRead read (Ok plan) = read ≡ Ok plan
TellsRead read (Err told) = (told ≡ fault.Memory) ⊎ ((error : PlanFault) × (read ≡ Err error) × IsFaultOfPlan error told)
