use Rattle.std.proofs.Common.{◌≡◌, ◌+◌, ◌≤◌, Ok, true, ◌∙◌, ap, sym, subst, arith}
use Rattle.event_log.specs.Answers.{take_answer}
use Rattle.event_log.specs.History.{deliveries, names}
use Rattle.book_core.proofs.Keeping.{few-flights}
use Rattle.book_core.proofs.KeepingTakes.{kept-taken, taken-attempts, taken-inside, taken-less, taken-named, taken-owed, taken-waits, taken-within}
use Rattle.book_core.proofs.book.Book.take.Goals as goal

pub letter-requires : goal.letter-requires
letter-requires g c =
    let asked : take_answer c.self.inside.log.history c.args.d c.args.now ≡ Ok c.in_ok-ticket.ticket = ap (λ h. take_answer h c.args.d c.args.now) (c.self.view_is ∙ c.ticket.ensures.unchanged) ∙ sym c.in_ok-ticket.ensures.answer in
    subst (λ h. names c.args.d (deliveries h c.in_ok-ticket.ticket.number) ≡ true) c.self.view_is (taken-named _ _ _ _ _ _ c.self.invariant c.args.d c.args.now c.in_ok-ticket.ticket asked)

pub count_taken-requires-clause-place : goal.count_taken-requires-clause-place
count_taken-requires-clause-place g c =
    let asked : take_answer c.self.inside.log.history c.args.d c.args.now ≡ Ok c.in_ok-ticket.ticket = ap (λ h. take_answer h c.args.d c.args.now) (c.self.view_is ∙ c.ticket.ensures.unchanged) ∙ sym c.in_ok-ticket.ensures.answer in
    taken-inside _ _ _ _ _ _ c.self.invariant c.args.d c.args.now c.in_ok-ticket.ticket asked

pub count_taken-requires-clause-waits : goal.count_taken-requires-clause-waits
count_taken-requires-clause-waits g c =
    let asked : take_answer c.self.inside.log.history c.args.d c.args.now ≡ Ok c.in_ok-ticket.ticket = ap (λ h. take_answer h c.args.d c.args.now) (c.self.view_is ∙ c.ticket.ensures.unchanged) ∙ sym c.in_ok-ticket.ensures.answer in
    taken-waits _ _ _ _ _ _ c.self.invariant c.args.d c.args.now c.in_ok-ticket.ticket asked

pub count_taken-requires-clause-room : goal.count_taken-requires-clause-room
count_taken-requires-clause-room g c =
    let asked : take_answer c.self.inside.log.history c.args.d c.args.now ≡ Ok c.in_ok-ticket.ticket = ap (λ h. take_answer h c.args.d c.args.now) (c.self.view_is ∙ c.ticket.ensures.unchanged) ∙ sym c.in_ok-ticket.ensures.answer in
    omega (arith, taken-attempts _ _ _ _ _ _ c.self.invariant c.args.d c.args.now c.in_ok-ticket.ticket asked)

pub overflow_add-self : goal.overflow_add-self
overflow_add-self g c =
    omega (arith, few-flights _ _ _ _ _ _ c.self.invariant)

pub overflow_sub-owed : goal.overflow_sub-owed
overflow_sub-owed g c =
    let asked : take_answer c.self.inside.log.history c.args.d c.args.now ≡ Ok c.in_ok-ticket.ticket = ap (λ h. take_answer h c.args.d c.args.now) (c.self.view_is ∙ c.ticket.ensures.unchanged) ∙ sym c.in_ok-ticket.ensures.answer in
    rw (c.owed-owed.ensures.value, c.reserve.ensures.history) (taken-less _ _ _ _ _ _ c.self.invariant c.args.d c.args.now c.in_ok-ticket.ticket asked)

pub push-requires-clause-owed : goal.push-requires-clause-owed
push-requires-clause-owed g c =
    let asked : take_answer c.self.inside.log.history c.args.d c.args.now ≡ Ok c.in_ok-ticket.ticket = ap (λ h. take_answer h c.args.d c.args.now) (c.self.view_is ∙ c.ticket.ensures.unchanged) ∙ sym c.in_ok-ticket.ensures.answer in
    rw (c.owed-owed.ensures.value, c.reserve.ensures.history) (taken-owed _ _ _ _ _ _ c.self.invariant c.args.d c.args.now c.in_ok-ticket.ticket asked)

pub push-requires-clause-within : goal.push-requires-clause-within
push-requires-clause-within g c =
    let asked : take_answer c.self.inside.log.history c.args.d c.args.now ≡ Ok c.in_ok-ticket.ticket = ap (λ h. take_answer h c.args.d c.args.now) (c.self.view_is ∙ c.ticket.ensures.unchanged) ∙ sym c.in_ok-ticket.ensures.answer in
    rw (c.owed-owed.ensures.value, c.reserve.ensures.history, taken-owed _ _ _ _ _ _ c.self.invariant c.args.d c.args.now c.in_ok-ticket.ticket asked) (taken-within _ _ _ _ _ _ c.self.invariant c.args.d c.args.now c.in_ok-ticket.ticket asked)

pub invariant_of-self-2 : goal.invariant_of-self-2
invariant_of-self-2 g c =
    let asked : take_answer c.self.inside.log.history c.args.d c.args.now ≡ Ok c.in_ok-ticket.ticket = ap (λ h. take_answer h c.args.d c.args.now) (c.self.view_is ∙ c.ticket.ensures.unchanged) ∙ sym c.in_ok-ticket.ensures.answer in
    let left : c.self.inside.flights + 1 ≤ c.push.new.self.room = omega (arith, c.push.ensures.room, c.in_ok-reserve.ensures.ok) in
    rw (c.push.ensures.history, c.reserve.ensures.history, c.begin_attempt.ensures, c.count_taken.ensures) (kept-taken _ _ _ _ _ _ c.self.invariant c.args.d c.args.now c.in_ok-ticket.ticket asked c.push.new.self.room left)
