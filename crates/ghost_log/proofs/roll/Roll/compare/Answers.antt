use Rattle.std.proofs.Common.{List, ℕ, All, subst}
use Rattle.ghost_log.specs.Seats.{Agrees}
use Rattle.ghost_log.proofs.roll.Roll.compare.Goals as goal

pub returns-clause-agreed : goal.returns-clause-agreed
returns-clause-agreed g c =
    subst (λ (r : List (ℕ × g.row.E.Denot) × ℕ × List (ℕ × List (ℕ × g.row.E.Denot))). All (λ s. Agrees s.0 s.1 r.0) r.2) c.self.view_is c.review.ensures.fitting.agreed
