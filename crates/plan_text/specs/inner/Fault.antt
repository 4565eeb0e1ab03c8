-- What proofs use beside the page Fault.
use Rattle.std.specs.Prelude.{◌≡◌, ℕ, List, [], ◌⊎◌, codes, Result, Ok, Err}
use Rattle.plan_text.specs.declared.fault.PlanFaultKind.{PlanFaultKind}
use Rattle.plan_text.specs.declared.fault.PlanFaultKind.TheVariants as name
use Rattle.plan_text.specs.declared.fault.PlanFault.{PlanFault}
use Rattle.plan_text.specs.declared.fault.Stop.{Stop}
use Rattle.plan_text.specs.declared.fault.Stop.TheVariants as stop
use Rattle.er7_tree.specs.Tree.{◌>>=◌}
use Rattle.plan_text.specs.Fault.{fault_at}

-- the faults by their numbers
abbrev pub fault_code : PlanFaultKind → ℕ
fault_code name.NotToml = 1
fault_code name.UnknownKey = 2
fault_code name.Missing = 3
fault_code name.BadRange = 4
fault_code name.BadPath = 5
fault_code name.ForbiddenWrite = 6
fault_code name.UnknownName = 7
fault_code name.DoubleName = 8
fault_code name.TooMany = 9
fault_code name.NoMemory = 10

-- and by their names
abbrev pub fault_text : PlanFaultKind → List ℕ
fault_text name.NotToml = codes "NotToml"
fault_text name.UnknownKey = codes "UnknownKey"
fault_text name.Missing = codes "Missing"
fault_text name.BadRange = codes "BadRange"
fault_text name.BadPath = codes "BadPath"
fault_text name.ForbiddenWrite = codes "ForbiddenWrite"
fault_text name.UnknownName = codes "UnknownName"
fault_text name.DoubleName = codes "DoubleName"
fault_text name.TooMany = codes "TooMany"
fault_text name.NoMemory = codes "NoMemory"

-- reading stopped out of memory, or at this fault
abbrev pub IsStop : Stop → PlanFault → Type 0
IsStop stop.NoMemory f = Unit {0}
IsStop (stop.Fault e) f = e ≡ f

-- reading stopped out of memory, or at the fault that the definition gives
abbrev pub Fails : {Y : Type 0} → Stop → Result Y PlanFault → Type 0
Fails stop.NoMemory read = Unit {0}
Fails (stop.Fault e) read = read ≡ Err e

-- what a reader returned, seen by `view`, is what the definition gives, unless memory was refused
abbrev pub Gives : {X Y : Type 0} → (X → Y) → Result X Stop → Result Y PlanFault → Type 0
Gives view (Ok x) read = read ≡ Ok (view x)
Gives view (Err e) read = Fails e read

-- a fault by which memory was refused
abbrev pub no_memory : PlanFault
no_memory = fault_at name.NoMemory []

-- a plan or a fault is what the definition gives, unless memory was refused
abbrev pub Reads : {X : Type 0} → Result X PlanFault → Result X PlanFault → Type 0
Reads (Ok p) read = read ≡ Ok p
Reads (Err e) read = (e ≡ no_memory) ⊎ (read ≡ Err e)
