-- Reading a plan to its end or to its first fault.
use Rattle.std.specs.Prelude.{ℕ, List, Result, Ok, Err}
use Rattle.plan_text.specs.declared.fault.PlanFaultKind.{PlanFaultKind}
use Rattle.plan_text.specs.declared.fault.PlanFault.{PlanFault}

-- a fault at a path
abbrev pub fault_at : PlanFaultKind → List ℕ → PlanFault
fault_at name path = record { name = name; path = path }

-- what is read at a path, with its fault reported there
abbrev pub told : {A : Type 0} → List ℕ → Result A PlanFaultKind → Result A PlanFault
told path (Ok x) = Ok x
told path (Err n) = Err (fault_at n path)
