use Rattle.std.proofs.Common.{◌≡◌, ◌∙◌, ◌+◌, ℕ, ap, arith}
use Rattle.book_lock.specs.Log.{Log}
use Rattle.book_lock.specs.inner.Log.{new_seats}
use Rattle.book_lock.proofs.shared.Shared.new.Goals as goal

pub returns-clause-seats : goal.returns-clause-seats
returns-clause-seats g c =
    let first : c.open-log.result.1 ≡ 0 = ap (λ (l : Log × ℕ). l.1) c.open-log.ensures in
    let more : c.open_desks.new.log.1 ≡ c.open-log.result.1 + c.args.desks = ap (λ (l : Log × ℕ). l.1) c.in-Ok-open_desks.ensures.log in
    let second : c.open_desks.new.log.1 ≡ c.args.desks = omega (arith, first, more) in (
      c.in-Ok-open_desks.ensures.seats ∙ ap (λ n. new_seats n c.args.desks) first,
      c.in-Ok-open_stations.ensures.seats ∙ ap (λ n. new_seats n c.args.stations) second,
    )
