-- The numbers of a framer's faults.
use Rattle.std.specs.Prelude.{ℕ}
use Rattle.mllp_frame.specs.declared.FrameFault.{FrameFault}
use Rattle.mllp_frame.specs.declared.FrameFault.TheVariants.{NoMemory, Failed}

-- that names a fault
abbrev pub code_of : FrameFault → ℕ
code_of NoMemory = 1
code_of Failed = 2
