use Rattle.std.proofs.lemmas.List.{append-nil}
use Rattle.std.proofs.Common.{sym, subst, ◌<◌, ◌^◌, ◌≡◌, ap, ◌∙◌, refl, ℕ, Ok, [], ◌∷◌, ◌+◌}
use Rattle.event_log.specs.declared.entry.Entry.TheVariants.{Take}
use Rattle.event_log.specs.History.{History, control_id, payload}
use Rattle.book_lock.specs.Rises.{SharedBook}
use Rattle.book_lock.proofs.Following.{few_entries, still, takes_fit}
use Rattle.event_log.specs.Event.{take}
use Rattle.book_lock.specs.Log.{Log}
use Rattle.book_lock.specs.declared.log_entry.LogEntry.TheVariants.{Booked}
use Rattle.book_lock.proofs.Logging.{book_called, called_take, pushed}
use Rattle.book_lock.specs.inner.Counts.{count_in, is_arrival, is_settlement, is_take}
use Rattle.book_lock.proofs.HandedIn.{counted_next, manned_more}
use Rattle.book_lock.proofs.Durability.{durable_more}
use Rattle.book_lock.proofs.locked.Locked.take.Goals as goal

pub add_take-requires : goal.add_take-requires
add_take-requires g c =
    let h : SharedBook = record { book = c.self.inside.book; opening = c.self.inside.opening; first = c.self.inside.first; admitted = c.self.inside.admitted } in
    subst (λ (l : Log × ℕ). count_in is_take l.0 + 1 < 2 ^ 64) (sym c.observe.ensures.log)
    (takes_fit h (count_in is_arrival c.self.inside.log.0) (count_in is_take c.self.inside.log.0) (count_in is_settlement c.self.inside.log.0) c.self.invariant.1
    (c.three_sums.ensures.few_takes h.book c.rules.ensures.sound (few_entries h.book c.rules.ensures.sound c.rules.ensures.few)))

pub invariant_of-self-2 : goal.invariant_of-self-2
invariant_of-self-2 g c =
    let taken = rw c.in-Ok.is at c.take-taken.ensures in
    let h : SharedBook = record { book = c.self.inside.book; opening = c.self.inside.opening; first = c.self.inside.first; admitted = c.self.inside.admitted } in
    let rise = c.three_sums.ensures.take h.book c.args.d c.args.now c.in-Ok.job.ticket c.rules.ensures.sound taken.does.replied in
    let p = pushed c.args.station.now.seat c.observe.new.self.seat c.observe.new.self.seat c.add_take.new.self.seat c.self.inside.log.0 c.observe.new.log.0 c.add_take.new.log.0 (Booked (Take c.in-Ok.job.ticket c.args.now) ∷ [])
    c.observe.ensures.seat refl (ap (λ (l : Log × ℕ). l.0) c.observe.ensures.log) (ap (λ (l : Log × ℕ). l.0) c.add_take.ensures.log) c.add_take.ensures.seat in
    let n = counted_next h (Take c.in-Ok.job.ticket c.args.now) c.take-taken.new.self g.A.Sharing.counts g.A.Sharing.first g.A.Sharing.channels c.args.station.now.seat.number c.self.inside.log.0 c.add_take.new.log.0
    taken.does.booked (still h (Take c.in-Ok.job.ticket c.args.now) refl) c.self.invariant.0 c.self.invariant.1 rise p.0 in
    (n.0, n.1, book_called g.A.Sharing.opening c.self.inside.log.0 c.add_take.new.log.0 c.args.station.now.seat.number (take c.args.d c.args.now) c.self.inside.book c.take-taken.new.self (Ok c.in-Ok.job.ticket) c.self.invariant.2 taken.does p.0, ap (λ (l : Log × ℕ). l.1) c.add_take.ensures.log ∙ (ap (λ (l : Log × ℕ). l.1) c.observe.ensures.log ∙ c.self.invariant.3), c.self.invariant.4, manned_more g.A.Sharing.desks g.A.Sharing.stations c.self.inside.log.0 c.add_take.new.log.0 (c.args.station.now.seat.number, Booked (Take c.in-Ok.job.ticket c.args.now)) c.self.invariant.5 p.0 (λ e. absurd cc) (λ _. c.observe.ensures.number) (λ e. absurd cc), durable_more g.A.Sharing.opening g.A.Sharing.committed c.self.inside.log.0 c.add_take.new.log.0 (c.args.station.now.seat.number, Booked (Take c.in-Ok.job.ticket c.args.now)) c.self.inside.durable c.self.inside.unread c.self.invariant.6 refl p.0)

pub returns-clause-control_id : goal.returns-clause-control_id
returns-clause-control_id g c =
    let taken = rw c.in-Ok.is at c.take-taken.ensures in
    let b : c.self.inside.book ≡ c.args.self.now.book = ap (λ (h : SharedBook). h.book) c.self.view_is in
    rw c.in-Ok.is (taken.control_id ∙ ap (λ (h : History). control_id h c.in-Ok.job.ticket.number) b)

pub returns-clause-payload : goal.returns-clause-payload
returns-clause-payload g c =
    let taken = rw c.in-Ok.is at c.take-taken.ensures in
    let b : c.self.inside.book ≡ c.args.self.now.book = ap (λ (h : SharedBook). h.book) c.self.view_is in
    rw c.in-Ok.is (taken.payload ∙ ap (λ (h : History). payload h c.in-Ok.job.ticket.number c.args.d) b)

pub returns-clause-call : goal.returns-clause-call
returns-clause-call g c =
    let taken = rw c.in-Ok.is at c.take-taken.ensures in
    let job = c.in-Ok.job in
    let p = pushed c.args.station.now.seat c.observe.new.self.seat c.observe.new.self.seat c.add_take.new.self.seat c.self.inside.log.0 c.observe.new.log.0 c.add_take.new.log.0 (Booked (Take job.ticket c.args.now) ∷ [])
    c.observe.ensures.seat refl (ap (λ (l : Log × ℕ). l.0) c.observe.ensures.log) (ap (λ (l : Log × ℕ). l.0) c.add_take.ensures.log) c.add_take.ensures.seat in
    rw c.in-Ok.is
    (called_take g.A.Sharing.opening c.args.d c.args.now c.args.station.now.seat c.add_take.new.self.seat c.self.inside.log.0 c.add_take.new.log.0 c.self.inside.book c.take-taken.new.self (Ok job) c.self.invariant.2
    c.observe.ensures.agreed taken.does taken.memory (record { control_id = taken.control_id; payload = taken.payload; ack = taken.ack }) p.0 p.1)

pub returns-in_default-clause-call : goal.returns-in_default-clause-call
returns-in_default-clause-call g c =
    let taken = c.take-taken.ensures in
    called_take g.A.Sharing.opening c.args.d c.args.now c.args.station.now.seat c.observe.new.self.seat c.self.inside.log.0 c.self.inside.log.0 c.self.inside.book c.take-taken.new.self c.take-taken.result c.self.invariant.2
    c.observe.ensures.agreed taken.does taken.memory (rw c.in_default.is tt) (rw c.in_default.is (sym (append-nil c.self.inside.log.0))) c.observe.ensures.seat
