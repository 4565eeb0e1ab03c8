use Rattle.std.proofs.Common.{ap, sym, subst, ◌≤◌, arith}
use Rattle.book_lock.specs.Durable.{AreCommitted, IsDurableBelow}
use Rattle.book_lock.specs.Log.{SeatView}
use Rattle.book_lock.proofs.Planning.{looked}
use Rattle.book_lock.proofs.Durability.{arrivals_durable}
use Rattle.book_lock.proofs.locked.Locked.is_durable.Goals as goal

pub returns-clause-looks : goal.returns-clause-looks
returns-clause-looks g c = λ _.
    looked g.A.Sharing.opening c.args.desk.now.seat c.observe.new.self.seat c.self.inside.log.0 c.self.inside.book c.self.invariant.2 c.observe.ensures.agreed c.observe.ensures.seat

pub returns-clause-durable : goal.returns-clause-durable
returns-clause-durable g c = λ _.
    let looks = looked g.A.Sharing.opening c.args.desk.now.seat c.observe.new.self.seat c.self.inside.log.0 c.self.inside.book c.self.invariant.2 c.observe.ensures.agreed c.observe.ensures.seat in
    let enough : c.args.until ≤ c.self.inside.durable = omega (arith, c.if-self-until.false) in
    arrivals_durable g.A.Sharing.opening c.args.desk.now.seat c.observe.new.self.seat c.self.inside.log.0 c.args.until c.self.inside.durable looks
    (ap (λ (s : SeatView). s.seen) c.observe.ensures.seat) c.requires enough c.self.invariant.6.durable

pub returns-clause-committed : goal.returns-clause-committed
returns-clause-committed g c = λ _.
    subst (λ (s : SeatView). AreCommitted g.A.Sharing.opening g.A.Sharing.committed s.seen) (sym c.observe.ensures.seat) c.self.invariant.6.committed

pub returns-clause-all : goal.returns-clause-all
returns-clause-all g c = λ _. record {
  below = c.self.inside.durable;
  behind = omega (arith, c.if-self-until.false, c.requires);
  durable = subst (λ (s : SeatView). IsDurableBelow g.A.Sharing.opening s.seen c.self.inside.durable) (sym c.observe.ensures.seat) c.self.invariant.6.durable;
}
