use Rattle.std.proofs.Common.{◌≡◌, ◌++◌, List, ℕ, length, arith, rules, refl, sym, ap, subst, ◌∙◌}
use Rattle.event_records.specs.declared.record.Record.{Record}
use Rattle.service_store.specs.inner.Starting.{AreBooked}
use Rattle.service_store.proofs.Behind.{booked_both}
use Rattle.service_store.proofs.start.catch_up.Goals as goal

pub returns-clause-booked : goal.returns-clause-booked
returns-clause-booked g c =
    let first = c.in_ok-records.records.items in
    let settled = c.in_ok-settlements.field-0.records.items in
    let second : AreBooked c.adopt.new.book c.settle.new.book settled =
    record { history = c.in_ok-settlements.ensures.history; replayed = c.in_ok-settlements.ensures.replayed } in
    let all : c.append.new.self.items ≡ first ++ settled = c.in_ok-append.ensures.items in
    subst (AreBooked c.args.book.now c.settle.new.book) (sym all)
    (booked_both c.args.book.now c.adopt.new.book c.settle.new.book first settled c.in_ok-records.ensures.booked second)

pub returns-clause-caught_up : goal.returns-clause-caught_up
returns-clause-caught_up g c =
    let settled = c.in_ok-settlements.field-0.records.items in
    let same : c.in_ok-settlements.settlements.items ≡ settled = sym (ap (λ v. v.items) c.in_ok-settlements.settlements-is) in
    record {
      planned = c.adopt.new.book;
      deployed = c.in_ok-records.ensures.planned;
      now = c.args.now;
      not_before = omega arith;
      settled = c.in_ok-settlements.ensures.flights;
      booked = settled;
      history = c.in_ok-settlements.ensures.history;
      count = rw (sym same) (search rules);
      named = c.in_ok-settlements.ensures.failed;
    }
