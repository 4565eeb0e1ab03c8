use Rattle.std.proofs.lemmas.List.{append-nil}
use Rattle.std.proofs.Common.{◌≡◌, ◌<◌, ◌^◌, sym, ap, arith, refl, subst, ℕ, Ok, [], ◌∷◌, ◌++◌, ◌+◌, ◌∙◌}
use Rattle.event_log.specs.History.{plan_in_force}
use Rattle.event_log.specs.declared.entry.Entry.TheVariants.{Arrival}
use Rattle.event_log.specs.Event.{arrive}
use Rattle.event_log.proofs.Events.{does-follow}
use Rattle.book_lock.specs.Rises.{SharedBook}
use Rattle.book_lock.proofs.Following.{arrivals_fit, few_entries, known_channel, still}
use Rattle.book_lock.specs.Log.{Log}
use Rattle.book_lock.specs.declared.log_entry.LogEntry.TheVariants.{Booked}
use Rattle.book_lock.proofs.Logging.{book_called, here_arrival, pushed}
use Rattle.book_lock.specs.inner.Arriving.{ArrivesHere}
use Rattle.book_lock.specs.inner.Counts.{count_in, is_arrival, is_settlement, is_take}
use Rattle.book_lock.proofs.HandedIn.{counted_next, manned_more}
use Rattle.book_lock.proofs.Planning.{still_in_force}
use Rattle.book_lock.proofs.Durability.{durable_more}
use Rattle.book_lock.proofs.locked.Locked.book_arrival.Goals as goal

pub book_arrival-booked-requires-clause-current : goal.book_arrival-booked-requires-clause-current
book_arrival-booked-requires-clause-current g c = λ is.
    let desk = c.args.desk.now in
    let current = c.is_current-is_current.ensures.0 is in
    still_in_force g.A.Sharing.opening desk.seat.number desk.seat.seen c.self.inside.log.0 desk.deployed c.args.judged.now.plan c.self.inside.book c.self.invariant.2
    c.observe.ensures.agreed (current.1 ∙ c.observe.ensures.deployed) (c.requires.by_plan current.0)

pub returns-in_default-clause-call : goal.returns-in_default-clause-call
returns-in_default-clause-call g c =
    let booked = c.book_arrival-booked.ensures in
    subst (λ (h : SharedBook). ArrivesHere g.A.Sharing.opening c.args.conn c.args.judged.now h.book c.args.desk.now.seat c.observe.new.self.seat c.book_arrival-booked.result) c.self.view_is
    (here_arrival g.A.Sharing.opening c.args.conn c.args.judged.now c.args.desk.now.seat c.observe.new.self.seat c.self.inside.log.0 c.self.inside.log.0 c.self.inside.book c.book_arrival-booked.new.book c.book_arrival-booked.result c.self.invariant.2
    c.observe.ensures.agreed booked.does booked.memory booked.receipt booked.plan booked.same_plan (rw c.in_default.is (sym (append-nil c.self.inside.log.0))) c.observe.ensures.seat)

pub add_arrival-requires : goal.add_arrival-requires
add_arrival-requires g c =
    let h : SharedBook = record { book = c.self.inside.book; opening = c.self.inside.opening; first = c.self.inside.first; admitted = c.self.inside.admitted } in
    subst (λ (l : Log × ℕ). count_in is_arrival l.0 + 1 < 2 ^ 64) (sym c.observe.ensures.log)
    (arrivals_fit h (count_in is_arrival c.self.inside.log.0) (count_in is_take c.self.inside.log.0) (count_in is_settlement c.self.inside.log.0) c.self.invariant.1
    (c.three_sums.ensures.few_arrivals h.book c.rules.ensures.sound (few_entries h.book c.rules.ensures.sound c.rules.ensures.few)))

pub invariant_of-self-2 : goal.invariant_of-self-2
invariant_of-self-2 g c =
    let booked = rw c.in-Ok.is at c.book_arrival-booked.ensures in
    let h : SharedBook = record { book = c.self.inside.book; opening = c.self.inside.opening; first = c.self.inside.first; admitted = c.self.inside.admitted } in
    let judged = c.args.judged.now in
    let told = c.in-Ok.receipt.told in
    let known = known_channel judged.plan (plan_in_force h.book) judged.channel (λ other. let w = booked.plan.1 other in cc) (omega (arith, c.channel-channel.ensures.value, c.channel-channel.ensures.known)) in
    let rise = c.three_sums.ensures.arrival h.book c.args.conn judged.channel judged.raw told c.rules.ensures.sound (does-follow (arrive c.args.conn judged.channel judged.raw) h.book c.book_arrival-booked.new.book told booked.does) known in
    let p = pushed c.args.desk.now.seat c.observe.new.self.seat c.observe.new.self.seat c.add_arrival.new.self.seat c.self.inside.log.0 c.observe.new.log.0 c.add_arrival.new.log.0 (Booked (Arrival c.in-Ok.receipt.conn c.in-Ok.receipt.channel c.in-Ok.receipt.raw told) ∷ [])
    c.observe.ensures.seat refl (ap (λ (l : Log × ℕ). l.0) c.observe.ensures.log) (ap (λ (l : Log × ℕ). l.0) c.add_arrival.ensures.log) c.add_arrival.ensures.seat in
    let added : c.add_arrival.new.log.0 ≡ c.self.inside.log.0 ++ (c.args.desk.now.seat.number, Booked (Arrival c.args.conn judged.channel judged.raw told)) ∷ [] = p.0 ∙ (λ i. c.self.inside.log.0 ++ (c.args.desk.now.seat.number, Booked (Arrival (booked.receipt.conn i) (booked.receipt.channel i) (booked.receipt.raw i) c.in-Ok.receipt.told)) ∷ []) in
    let n = counted_next h (Arrival c.args.conn judged.channel judged.raw told) c.book_arrival-booked.new.book g.A.Sharing.counts g.A.Sharing.first g.A.Sharing.channels c.args.desk.now.seat.number c.self.inside.log.0 c.add_arrival.new.log.0
    booked.does.booked (still h (Arrival c.args.conn judged.channel judged.raw told) refl) c.self.invariant.0 c.self.invariant.1 rise added in
    (n.0, n.1, book_called g.A.Sharing.opening c.self.inside.log.0 c.add_arrival.new.log.0 c.args.desk.now.seat.number (arrive c.args.conn judged.channel judged.raw) c.self.inside.book c.book_arrival-booked.new.book (Ok told) c.self.invariant.2 booked.does added, ap (λ (l : Log × ℕ). l.1) c.add_arrival.ensures.log ∙ (ap (λ (l : Log × ℕ). l.1) c.observe.ensures.log ∙ c.self.invariant.3), c.self.invariant.4, manned_more g.A.Sharing.desks g.A.Sharing.stations c.self.inside.log.0 c.add_arrival.new.log.0 (c.args.desk.now.seat.number, Booked (Arrival c.args.conn judged.channel judged.raw told)) c.self.invariant.5 added (λ _. c.observe.ensures.number) (λ e. absurd cc) (λ e. absurd cc), durable_more g.A.Sharing.opening g.A.Sharing.committed c.self.inside.log.0 c.add_arrival.new.log.0 (c.args.desk.now.seat.number, Booked (Arrival c.args.conn judged.channel judged.raw told)) c.self.inside.durable c.self.inside.unread c.self.invariant.6 refl added)

pub returns-clause-call : goal.returns-clause-call
returns-clause-call g c =
    let booked = rw c.in-Ok.is at c.book_arrival-booked.ensures in
    let judged = c.args.judged.now in
    let p = pushed c.args.desk.now.seat c.observe.new.self.seat c.observe.new.self.seat c.add_arrival.new.self.seat c.self.inside.log.0 c.observe.new.log.0 c.add_arrival.new.log.0 (Booked (Arrival c.in-Ok.receipt.conn c.in-Ok.receipt.channel c.in-Ok.receipt.raw c.in-Ok.receipt.told) ∷ [])
    c.observe.ensures.seat refl (ap (λ (l : Log × ℕ). l.0) c.observe.ensures.log) (ap (λ (l : Log × ℕ). l.0) c.add_arrival.ensures.log) c.add_arrival.ensures.seat in
    rw c.in-Ok.is
    (subst (λ (h : SharedBook). ArrivesHere g.A.Sharing.opening c.args.conn judged h.book c.args.desk.now.seat c.add_arrival.new.self.seat (Ok c.in-Ok.receipt)) c.self.view_is
    (here_arrival g.A.Sharing.opening c.args.conn judged c.args.desk.now.seat c.add_arrival.new.self.seat c.self.inside.log.0 c.add_arrival.new.log.0 c.self.inside.book c.book_arrival-booked.new.book (Ok c.in-Ok.receipt) c.self.invariant.2
    c.observe.ensures.agreed booked.does booked.memory booked.receipt booked.plan booked.same_plan (p.0 ∙ (λ i. c.self.inside.log.0 ++ (c.args.desk.now.seat.number, Booked (Arrival (booked.receipt.conn i) (booked.receipt.channel i) (booked.receipt.raw i) c.in-Ok.receipt.told)) ∷ [])) p.1))
