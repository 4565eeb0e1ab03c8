-- A message may go to the first three destinations.
use Rattle.std.proofs.Common.{◌≡◌, ◌≢◌, ◌<◌, ℕ, List, [], ◌∷◌, arith, rules, All, AllPairs}
use Rattle.std.proofs.lemmas.List.Kept.{AllPairs-cons}
use Rattle.mllp_frame.specs.Framing.{IsData}
use Rattle.judge_core.specs.declared.delivery.Delivery.{Delivery}
use Rattle.judge_core.specs.inner.Delivering.{AreDeliveries}

pub three_apart : (a b c : Delivery) → a.destination ≡ 0 → b.destination ≡ 1 → c.destination ≡ 2
    → IsData a.payload → IsData b.payload → IsData c.payload → AreDeliveries (a ∷ b ∷ c ∷ [])
three_apart a b c first second third = λ p q r. record {
  within = search (arith, rules);
  once = grind (arith, rules);
  plain = search rules;
}
