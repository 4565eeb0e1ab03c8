-- What holds of the message after a step, where there is one.
use Rattle.std.proofs.Common.{◌≡◌, ℕ, Bool, true, false, List, Option, Some, None, Result, Ok, Err, cond, IfOk, refl}
use Rattle.std.specs.Option.{ok_or}
use Rattle.er7_tree.specs.declared.refusal.Refusal.{Refusal}
use Rattle.er7_tree.specs.Tree.{Tree, ◌>>=◌}
use Rattle.hl7_transform.specs.declared.fault.StepFault.{StepFault}
use Rattle.hl7_transform.specs.declared.fault.StepFault.TheVariants.{Stopped}
use Rattle.hl7_transform.specs.declared.fault.StopCause.{StopCause}
use Rattle.hl7_transform.specs.declared.fault.StopCause.TheVariants.{NotInTable}
use Rattle.hl7_transform.specs.Step.{Edit, made, change, changed_at}
use Rattle.std.specs.Result.{result_map_both}

pub IfOk-cond : {E : Type 0} (b : Bool) (x y : Result Tree E) (P : Tree → Type 0) → IfOk x P → IfOk y P → IfOk (cond b x y) P
IfOk-cond true x y P first second = first
IfOk-cond false x y P first second = second

-- what holds of both holds of either
pub at_cond : (b : Bool) (x y : Tree) (P : Tree → Type 0) → P x → P y → P (cond b x y)
at_cond true x y P first second = first
at_cond false x y P first second = second

-- what holds of each answer holds of the one that is there
pub IfOk-by : {E : Type 0} (answer : Result Tree E) (P : Tree → Type 0) → ((t : Tree) → answer ≡ Ok t → P t) → IfOk answer P
IfOk-by (Ok t) P each = each t refl
IfOk-by (Err e) P each = tt

pub IfOk-made : (edited : Result Tree Refusal) (P : Tree → Type 0) → IfOk edited P → IfOk (made edited) P
IfOk-made (Ok t) P holds = holds
IfOk-made (Err refusal) P holds = tt

at_place : (place : ℕ) (changed : Result Tree StopCause) (P : Tree → Type 0) → IfOk changed P → IfOk (result_map_both (λ t. t) (λ cause. Stopped place cause) changed) P
at_place place (Ok t) P holds = holds
at_place place (Err cause) P holds = tt

pub IfOk-changed_at : (place : ℕ) (step : Edit) (t : Tree) (P : Tree → Type 0) → IfOk (change step t) P → IfOk (changed_at place step t) P
IfOk-changed_at place step t P holds = at_place place (change step t) P holds

pub IfOk-then : (first : Result Tree StepFault) (next : Tree → Result Tree StepFault) (P Q : Tree → Type 0) → IfOk first P → ((t : Tree) → P t → IfOk (next t) Q) → IfOk (first >>= next) Q
IfOk-then (Ok t) next P Q holds then_holds = then_holds t holds
IfOk-then (Err fault) next P Q holds then_holds = tt

pub IfOk-partner : (found : Option (List ℕ)) (next : List ℕ → Result Tree StopCause) (P : Tree → Type 0) → ((text : List ℕ) → IfOk (next text) P) → IfOk (ok_or found NotInTable >>= next) P
IfOk-partner None next P holds = tt
IfOk-partner (Some text) next P holds = holds text
