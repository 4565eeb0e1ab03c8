-- What proofs use beside the page Delivering.
use Rattle.std.specs.Prelude.{◌≢◌, ◌<◌, List, All, AllPairs}
use Rattle.mllp_frame.specs.Framing.{IsData}
use Rattle.judge_core.specs.declared.delivery.Delivery.{Delivery}

-- each of at most 32 destinations at most once, and texts that can be framed
pub record AreDeliveries (deliveries : List Delivery) : Type 0 where
  pub within : All (λ x. x.destination < 32) deliveries
  pub once : AllPairs (λ x y. x.destination ≢ y.destination) deliveries
  pub plain : All (λ x. IsData x.payload) deliveries
