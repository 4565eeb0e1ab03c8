use Rattle.std.proofs.lemmas.List.{append-nil}
use Rattle.std.proofs.Common.{sym, subst, ◌<◌, ◌^◌, refl, ap, ℕ, Ok, [], ◌∷◌, ◌+◌, ◌∙◌}
use Rattle.event_log.specs.declared.entry.Entry.TheVariants.{Settle}
use Rattle.book_lock.specs.Rises.{SharedBook}
use Rattle.book_lock.proofs.Following.{few_entries, settlements_fit, still}
use Rattle.event_log.specs.Event.{settle}
use Rattle.book_lock.specs.Log.{Log}
use Rattle.book_lock.specs.declared.log_entry.LogEntry.TheVariants.{Booked}
use Rattle.book_lock.proofs.Logging.{book_called, called, no_memory, pushed}
use Rattle.book_lock.specs.inner.Counts.{count_in, is_arrival, is_settlement, is_take}
use Rattle.book_lock.proofs.HandedIn.{counted_next, manned_more}
use Rattle.book_lock.proofs.Durability.{durable_more}
use Rattle.book_lock.proofs.locked.Locked.settle.Goals as goal

pub add_settlement-requires : goal.add_settlement-requires
add_settlement-requires g c =
    let h : SharedBook = record { book = c.self.inside.book; opening = c.self.inside.opening; first = c.self.inside.first; admitted = c.self.inside.admitted } in
    subst (λ (l : Log × ℕ). count_in is_settlement l.0 + 1 < 2 ^ 64) (sym c.observe.ensures.log)
    (settlements_fit h (count_in is_arrival c.self.inside.log.0) (count_in is_take c.self.inside.log.0) (count_in is_settlement c.self.inside.log.0) c.self.invariant.1
    (c.three_sums.ensures.few_settlements h.book c.rules.ensures.sound (few_entries h.book c.rules.ensures.sound c.rules.ensures.few)))

pub invariant_of-self-2 : goal.invariant_of-self-2
invariant_of-self-2 g c =
    let settled = rw c.in-Ok.is at c.settle-settled.ensures in
    let h : SharedBook = record { book = c.self.inside.book; opening = c.self.inside.opening; first = c.self.inside.first; admitted = c.self.inside.admitted } in
    let ticket = c.args.ticket.now in
    let state = c.in-Ok.state in
    let rise = c.three_sums.ensures.settlement h.book ticket c.args.outcome c.args.now state c.rules.ensures.sound settled.does.replied in
    let p = pushed c.args.station.now.seat c.observe.new.self.seat c.observe.new.self.seat c.add_settlement.new.self.seat c.self.inside.log.0 c.observe.new.log.0 c.add_settlement.new.log.0 (Booked (Settle c.args.outcome ticket c.args.now state) ∷ [])
    c.observe.ensures.seat refl (ap (λ (l : Log × ℕ). l.0) c.observe.ensures.log) (ap (λ (l : Log × ℕ). l.0) c.add_settlement.ensures.log) c.add_settlement.ensures.seat in
    let n = counted_next h (Settle c.args.outcome ticket c.args.now state) c.settle-settled.new.self g.A.Sharing.counts g.A.Sharing.first g.A.Sharing.channels c.args.station.now.seat.number c.self.inside.log.0 c.add_settlement.new.log.0
    settled.does.booked (still h (Settle c.args.outcome ticket c.args.now state) refl) c.self.invariant.0 c.self.invariant.1 rise p.0 in
    (n.0, n.1, book_called g.A.Sharing.opening c.self.inside.log.0 c.add_settlement.new.log.0 c.args.station.now.seat.number (settle ticket c.args.outcome c.args.now) c.self.inside.book c.settle-settled.new.self (Ok state) c.self.invariant.2 settled.does p.0, ap (λ (l : Log × ℕ). l.1) c.add_settlement.ensures.log ∙ (ap (λ (l : Log × ℕ). l.1) c.observe.ensures.log ∙ c.self.invariant.3), c.self.invariant.4, manned_more g.A.Sharing.desks g.A.Sharing.stations c.self.inside.log.0 c.add_settlement.new.log.0 (c.args.station.now.seat.number, Booked (Settle c.args.outcome ticket c.args.now state)) c.self.invariant.5 p.0 (λ e. absurd cc) (λ e. absurd cc) (λ _. c.observe.ensures.number), durable_more g.A.Sharing.opening g.A.Sharing.committed c.self.inside.log.0 c.add_settlement.new.log.0 (c.args.station.now.seat.number, Booked (Settle c.args.outcome ticket c.args.now state)) c.self.inside.durable c.self.inside.unread c.self.invariant.6 refl p.0)

pub returns-clause-call : goal.returns-clause-call
returns-clause-call g c =
    let settled = rw c.in-Ok.is at c.settle-settled.ensures in
    let ticket = c.args.ticket.now in
    let state = c.in-Ok.state in
    let p = pushed c.args.station.now.seat c.observe.new.self.seat c.observe.new.self.seat c.add_settlement.new.self.seat c.self.inside.log.0 c.observe.new.log.0 c.add_settlement.new.log.0 (Booked (Settle c.args.outcome ticket c.args.now state) ∷ [])
    c.observe.ensures.seat refl (ap (λ (l : Log × ℕ). l.0) c.observe.ensures.log) (ap (λ (l : Log × ℕ). l.0) c.add_settlement.ensures.log) c.add_settlement.ensures.seat in
    rw c.in-Ok.is
    (called g.A.Sharing.opening (settle ticket c.args.outcome c.args.now) c.args.station.now.seat c.add_settlement.new.self.seat c.self.inside.log.0 c.add_settlement.new.log.0 c.self.inside.book c.settle-settled.new.self (Ok state) c.self.invariant.2
    c.observe.ensures.agreed settled.does tt p.0 p.1)

pub returns-in_default-clause-call : goal.returns-in_default-clause-call
returns-in_default-clause-call g c =
    let event = settle c.args.ticket.now c.args.outcome c.args.now in
    called g.A.Sharing.opening event c.args.station.now.seat c.observe.new.self.seat c.self.inside.log.0 c.self.inside.log.0 c.self.inside.book c.settle-settled.new.self c.settle-settled.result c.self.invariant.2
    c.observe.ensures.agreed c.settle-settled.ensures.does (no_memory c.args.ticket.now c.args.outcome c.args.now c.self.inside.book c.settle-settled.result) (rw c.in_default.is (sym (append-nil c.self.inside.log.0))) c.observe.ensures.seat
