-- How far the end of a service is, as a number.
use Rattle.std.specs.Prelude.{ℕ, ◌==◌, if◌then◌else◌}
use Rattle.service_workers.specs.declared.stage.Stage.{Stage}
use Rattle.service_workers.specs.declared.stage.Stage.TheVariants.{Open, Closing, Halted}

-- a later stage has a greater number
abbrev pub stage_number : Stage → ℕ
stage_number Open = 0
stage_number Closing = 1
stage_number Halted = 2

-- a number that no stage has counts as the last
abbrev pub stage_of : ℕ → Stage
stage_of n = if n == 0 then Open else (if n == 1 then Closing else Halted)
