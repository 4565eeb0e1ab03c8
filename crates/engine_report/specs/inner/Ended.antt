-- How hl7_service ends.
use Rattle.std.specs.Prelude.{ℕ}
use Rattle.engine_report.specs.Ending.{status_of}
use Rattle.engine_report.specs.declared.ended.Ended.{Ended}
use Rattle.engine_report.specs.declared.ended.Ended.TheVariants as ended
use Rattle.engine_report.specs.declared.ended.Trouble.{Trouble}
use Rattle.engine_report.specs.declared.ended.Trouble.TheVariants as trouble

-- the exit status where the program does what was requested
abbrev pub ended_status : Ended → ℕ
ended_status ended.Done = 0
ended_status ended.Refused = 1
ended_status ended.Undelivered = 5

-- the exit status where it can't
abbrev pub trouble_status : Trouble → ℕ
trouble_status (trouble.Engine fault) = status_of fault
trouble_status (trouble.NoChannel given names) = 2
trouble_status (trouble.Store line status) = status
