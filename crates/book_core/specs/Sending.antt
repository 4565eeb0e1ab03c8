-- What is sent of a message, and what is kept of it to send it.
use Rattle.std.specs.Prelude.{ℕ, Bool, true, false, slice_get}
use Rattle.std.specs.Option.{option_map_or}
use Rattle.plan_text.specs.Entries.{PlanEntry}
use Rattle.plan_text.specs.declared.destination.Await.{Await}
use Rattle.plan_text.specs.declared.destination.Await.TheVariants as await

abbrev pub is_ack : Await → Bool
is_ack await.Ack = true
is_ack await.None = false

-- whether destination d answers with an acknowledgment
abbrev pub awaits_ack : PlanEntry → ℕ → Bool
awaits_ack plan d = option_map_or (λ x. is_ack x.wait) (slice_get plan.destinations d) false
