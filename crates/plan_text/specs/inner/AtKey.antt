-- What is read at a key of the program.
use Rattle.std.specs.Prelude.{ℕ, List, option_map, Option, Result}
use Rattle.toml.specs.Data.{Data}
use Rattle.toml.specs.View.{view}
use Rattle.plan_text.specs.declared.fault.PlanFaultKind.{PlanFaultKind}
use Rattle.plan_text.specs.declared.fault.PlanFault.{PlanFault}
use Rattle.plan_text.specs.declared.from_toml.keys.Key.{Key}
use Rattle.plan_text.specs.Fault.{told}
use Rattle.plan_text.specs.Keys.{key_path}

-- the path to the key
abbrev pub key_at : Key → List ℕ
key_at key = key_path key.at.now key.name.now

-- the value at the key, if there is one
abbrev pub value_at : Key → Option Data
value_at key = option_map (λ v. view v.now) key.value

abbrev pub at_key : {A : Type 0} → Key → (Option Data → Result A PlanFaultKind) → Result A PlanFault
at_key key read = told (key_at key) (read (value_at key))
