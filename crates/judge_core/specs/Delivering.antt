-- Where a message goes, and the texts that go there.
use Rattle.std.specs.Prelude.{ℕ, List, map}
use Rattle.judge_core.specs.declared.delivery.Delivery.{Delivery}

-- the destinations of deliveries, in their order
abbrev pub destinations_of : List Delivery → List ℕ
destinations_of deliveries = map (λ x. x.destination) deliveries
