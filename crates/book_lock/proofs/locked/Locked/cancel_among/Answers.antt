use Rattle.std.proofs.Common.{◌≡◌, rules, sym, refl, ap, ℕ, Ok, ◌∙◌, ◌++◌, ◌∷◌, []}
use Rattle.event_log.specs.declared.entry.Entry.TheVariants.{Cancel}
use Rattle.book_lock.specs.Rises.{SharedBook}
use Rattle.book_lock.proofs.Following.{still}
use Rattle.event_log.specs.Event.{Does, MemoryIsLast, cancel}
use Rattle.book_lock.specs.declared.log_entry.LogEntry.TheVariants.{Booked}
use Rattle.book_lock.specs.Log.{Log}
use Rattle.book_lock.proofs.Logging.{book_called, called_own, own_none}
use Rattle.book_lock.proofs.HandedIn.{counted_next, manned_none}
use Rattle.book_lock.proofs.Durability.{durable_more}
use Rattle.book_lock.proofs.locked.Locked.cancel_among.Goals as goal

pub invariant_of-self-2 : goal.invariant_of-self-2
invariant_of-self-2 g c =
    let h : SharedBook = record { book = c.self.inside.book; opening = c.self.inside.opening; first = c.self.inside.first; admitted = c.self.inside.admitted } in
    let mask = c.in_ok-mask.mask in
    let rise = c.three_sums.ensures.cancellation h.book c.args.number c.args.among mask c.rules.ensures.sound c.in_ok-mask.ensures.does.replied in
    let added : c.push.new.self.0 ≡ c.self.inside.log.0 ++ (c.observe.new.seat.0, Booked (Cancel c.args.number c.args.among mask)) ∷ [] =
    ap (λ (l : Log × ℕ). l.0) c.push.ensures.log ∙ ap (λ (l : Log × ℕ). l.0 ++ (c.observe.new.seat.0, Booked (Cancel c.args.number c.args.among mask)) ∷ []) c.observe.ensures.same in
    let n = counted_next h (Cancel c.args.number c.args.among mask) c.cancel_among.new.self g.A.Sharing.counts g.A.Sharing.first g.A.Sharing.channels c.observe.new.seat.0 c.self.inside.log.0 c.push.new.self.0
    c.in_ok-mask.ensures.does.booked (still h (Cancel c.args.number c.args.among mask) refl) c.self.invariant.0 c.self.invariant.1 rise added in
    (n.0, n.1, book_called g.A.Sharing.opening c.self.inside.log.0 c.push.new.self.0 c.observe.new.seat.0 (cancel c.args.number c.args.among) c.self.inside.book c.cancel_among.new.self (Ok mask) c.self.invariant.2 c.in_ok-mask.ensures.does added, ap (λ (l : Log × ℕ). l.1) c.push.ensures.log ∙ (ap (λ (l : Log × ℕ). l.1) c.observe.ensures.same ∙ c.self.invariant.3), c.self.invariant.4, manned_none g.A.Sharing.desks g.A.Sharing.stations c.self.inside.log.0 c.push.new.self.0 (c.observe.new.seat.0, Booked (Cancel c.args.number c.args.among mask)) c.self.invariant.5 added (refl, refl, refl), durable_more g.A.Sharing.opening g.A.Sharing.committed c.self.inside.log.0 c.push.new.self.0 (c.observe.new.seat.0, Booked (Cancel c.args.number c.args.among mask)) c.self.inside.durable c.self.inside.unread c.self.invariant.6 refl added)

pub returns-clause-call : goal.returns-clause-call
returns-clause-call g c =
    called_own g.A.Sharing.opening (cancel c.args.number c.args.among) c.self.inside.seat c.observe.new.seat c.push.new.seat c.self.inside.log.0 c.observe.new.self.0 c.push.new.self.0 c.self.inside.book c.cancel_among.new.self (Ok c.in_ok-mask.mask) c.self.invariant.2
    c.observe.ensures.agreed c.in_ok-mask.ensures.does c.in_ok-mask.ensures.memory c.observe.ensures.seat (ap (λ (l : Log × ℕ). l.0) c.observe.ensures.same) (ap (λ (l : Log × ℕ). l.0) c.push.ensures.log) c.push.ensures.seat

pub returns-in_err-mask-clause-call : goal.returns-in_err-mask-clause-call
returns-in_err-mask-clause-call g c =
    let does : Does (cancel c.args.number c.args.among) c.self.inside.book c.cancel_among.new.self c.from_residual.result = search rules in
    let memory : MemoryIsLast (cancel c.args.number c.args.among) c.self.inside.book c.from_residual.result = search rules in
    called_own g.A.Sharing.opening (cancel c.args.number c.args.among) c.self.inside.seat c.observe.new.seat c.observe.new.seat c.self.inside.log.0 c.self.inside.log.0 c.self.inside.log.0 c.self.inside.book c.cancel_among.new.self c.from_residual.result c.self.invariant.2
    c.observe.ensures.agreed does memory c.observe.ensures.seat refl (own_none c.observe.new.seat.0 (cancel c.args.number c.args.among) c.from_residual.result c.self.inside.log.0 c.from_residual.ensures.0) (c.observe.ensures.seat ∙ (λ i. (sym (ap (λ (s : ℕ × Log). s.0) c.observe.ensures.seat) i, c.self.inside.log.0)))
