-- What proofs use beside the page Check.
use Rattle.std.specs.Prelude.{ℕ}
use Rattle.hl7_transform.specs.declared.step_check.StepCheck.{StepCheck}
use Rattle.hl7_transform.specs.declared.step_check.StepCheck.TheVariants.{BadPath, ForbiddenWrite}

-- the numbers of these answers
abbrev pub check_code : StepCheck → ℕ
check_code BadPath = 1
check_code ForbiddenWrite = 2
