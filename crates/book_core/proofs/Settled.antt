-- When a retry is due, and what the slots of a message that is forgotten are.
use Rattle.std.proofs.Common.{◌≡◌, ℕ, ◌+◌, ◌≤◌, ◌==◌, Bool, true, false, cond, Option, None, Some, Ok, Err, IfSome, subst, arith}
use Rattle.std.specs.Option.{option_map_or}
use Rattle.dest_queue.specs.declared.FailCause.TheVariants.{Exhausted}
use Rattle.dest_queue.specs.declared.Outcome.{Outcome}
use Rattle.dest_queue.specs.declared.Outcome.TheVariants as outcomes
use Rattle.dest_queue.specs.declared.SettleRefusal.{SettleRefusal}
use Rattle.dest_queue.specs.declared.SlotState.{SlotState}
use Rattle.dest_queue.specs.declared.SlotState.TheVariants.{Waiting, InFlight, Delivered, Failed}
use Rattle.dest_queue.specs.States.{is_live, slot_answer, state_after}

-- a slot that is not live, where there is one
pub not-live : (o : Option SlotState) → option_map_or is_live o false ≡ false → IfSome o (λ state. is_live state ≡ false)
not-live None is = tt
not-live (Some state) is = is

abbrev due_of : SlotState → ℕ
due_of (Waiting attempts due) = due
due_of (InFlight attempt) = 0
due_of Delivered = 0
due_of (Failed cause) = 0

retry-due : (again : Bool) (attempt due most : ℕ) → due ≤ most → due_of (cond again (Failed Exhausted) (Waiting attempt due)) ≤ most
retry-due true attempt due most within = omega arith
retry-due false attempt due most within = within

after-due : (outcome : Outcome) (attempt now max interval most : ℕ) → now + interval ≤ most → due_of (state_after outcome attempt now max interval) ≤ most
after-due outcomes.Delivered attempt now max interval most within = omega arith
after-due outcomes.Again attempt now max interval most within = retry-due (attempt == max) attempt (now + interval) most within
after-due outcomes.Rejected attempt now max interval most within = omega arith

flown-due : (same : Bool) (s : SlotState) (refusal : SettleRefusal) (attempts due most : ℕ) → due_of s ≤ most → cond same (Ok s) (Err refusal) ≡ Ok (Waiting attempts due) → due ≤ most
flown-due true s refusal attempts due most within is = let same : s ≡ Waiting attempts due = cc in subst (λ t. due_of t ≤ most) same within
flown-due false s refusal attempts due most within is = absurd cc

-- a retry is due after the interval at the latest
pub settled-due : (o : Option SlotState) (outcome : Outcome) (attempt now max interval most attempts due : ℕ) → now + interval ≤ most
    → slot_answer o outcome attempt now max interval ≡ Ok (Waiting attempts due) → due ≤ most
settled-due None outcome attempt now max interval most attempts due within is = absurd cc
settled-due (Some (InFlight a)) outcome attempt now max interval most attempts due within is =
    flown-due (a == attempt) (state_after outcome attempt now max interval) _ attempts due most (after-due outcome attempt now max interval most within) is
settled-due (Some (Waiting a d)) outcome attempt now max interval most attempts due within is = absurd cc
settled-due (Some Delivered) outcome attempt now max interval most attempts due within is = absurd cc
settled-due (Some (Failed cause)) outcome attempt now max interval most attempts due within is = absurd cc
