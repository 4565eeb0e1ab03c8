use Rattle.std.proofs.Common.{◌≡◌, ◌∷◌, ◌∙◌, ℕ, List, ap, subst}
use Rattle.book_lock.specs.Log.{Log}
use Rattle.book_lock.specs.Shares.{StationView}
use Rattle.book_lock.specs.inner.Log.{station_seat}
use Rattle.book_lock.specs.inner.Counts.{count_of, is_take, is_settlement}
use Rattle.book_lock.proofs.HandedIn.{all_more, held_more}
use Rattle.book_lock.proofs.desks.hand_in_stations.Goals as goal

pub loop-station-preserved : goal.loop-station-preserved
loop-station-preserved g c =
    let inv = c.loop-station.invariant in (
      ap (λ (r : Log × ℕ × List (ℕ × Log)). r.0) c.hold.ensures ∙ inv.0,
      ap (λ (r : Log × ℕ × List (ℕ × Log)). r.1) c.hold.ensures ∙ inv.1,
      held_more station_seat c.args.stations.items c.pop.new.self.items c.loop-station.stations.items c.in-Some.station c.args.roll.now.2 c.loop-station.roll.2 c.hold.new.self.2 inv.2 c.in-Some.ensures.items
          (ap (λ (r : Log × ℕ × List (ℕ × Log)). r.2) c.hold.ensures ∙ ap (λ (d : StationView). station_seat d ∷ c.loop-station.roll.2) c.station.view_is),
      all_more (λ (d : StationView). d.counts.takes ≡ count_of is_take d.seat.number d.seat.seen) c.args.stations.items c.pop.new.self.items c.loop-station.stations.items c.in-Some.station inv.3 c.in-Some.ensures.items
          (subst (λ (d : StationView). d.counts.takes ≡ count_of is_take d.seat.number d.seat.seen) c.station.view_is c.station.invariant.2),
      all_more (λ (d : StationView). d.counts.settlements ≡ count_of is_settlement d.seat.number d.seat.seen) c.args.stations.items c.pop.new.self.items c.loop-station.stations.items c.in-Some.station inv.4 c.in-Some.ensures.items
          (subst (λ (d : StationView). d.counts.settlements ≡ count_of is_settlement d.seat.number d.seat.seen) c.station.view_is c.station.invariant.3),
    )
