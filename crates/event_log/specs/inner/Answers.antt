-- What proofs use beside the page Answers.
use Rattle.std.specs.Prelude.{ℕ}
use Rattle.event_log.specs.declared.refusal.TakeRefusal.{TakeRefusal}
use Rattle.event_log.specs.declared.refusal.TakeRefusal.TheVariants.{Idle, InFlightNow, NotDue}
use Rattle.event_log.specs.declared.refusal.TakeRefusal.TheVariants as take_refusal
use Rattle.event_log.specs.declared.refusal.CancelRefusal.{CancelRefusal}
use Rattle.event_log.specs.declared.refusal.CancelRefusal.TheVariants.{NoSuchMessage, NothingWaiting}
use Rattle.event_log.specs.declared.refusal.CancelRefusal.TheVariants as cancel_refusal

-- the number of a refusal to take
abbrev pub take_refusal_code : TakeRefusal → ℕ
take_refusal_code Idle = 1
take_refusal_code (InFlightNow number) = 2
take_refusal_code (NotDue due) = 3
take_refusal_code take_refusal.NoMemory = 4

-- the number of a refusal to cancel
abbrev pub cancel_refusal_code : CancelRefusal → ℕ
cancel_refusal_code NoSuchMessage = 1
cancel_refusal_code NothingWaiting = 2
cancel_refusal_code cancel_refusal.NoMemory = 3
