use Rattle.std.proofs.Common.{◌≡◌, ℕ, ◌≤◌, Some, sym, ◌∙◌, subst, arith}
use Rattle.std.proofs.lemmas.Option.{same_Some}
use Rattle.book_core.proofs.FirstLive.{not-refused, refused-live, refused-many, refused-number}
use Rattle.book_core.proofs.pruning.prune_refusal.Goals.{in_default-via-in-Some+else-number-before, in_default-via-in_default}
use Rattle.book_core.proofs.pruning.prune_refusal.Goals as goal

pub returns-then-before-message_count-clause-answer :
    goal.returns-then-before-message_count-clause-answer
returns-then-before-message_count-clause-answer g c = sym (refused-number c.args.log.now.history c.args.before (omega (arith, c.message_count.ensures, c.if-before-message_count.true)))

pub returns-in-Some-clause-answer : goal.returns-in-Some-clause-answer
returns-in-Some-clause-answer g c =
    let h = c.args.log.now.history in
    sym (refused-live h c.args.before c.in-Some.number (omega (arith, c.message_count.ensures, c.if-before-message_count.false)) (sym (c.first_queued.ensures.first h c.requires) ∙ c.in-Some.is) c.if-number-before.true)

pub returns-in_default-clause-answer : goal.returns-in_default-clause-answer
returns-in_default-clause-answer g c =
    let h = c.args.log.now.history in
    let past : (n : ℕ) → c.first_queued.result ≡ Some n → c.args.before ≤ n = λ n is. elim c.in_default.branch [
      | in_default-via-in-Some+else-number-before w ↦ subst (λ k. c.args.before ≤ k) (same_Some w.in-Some.number n (sym w.in-Some.is ∙ is)) w.if-number-before.false
      | in_default-via-in_default w ↦ let none = w.in_default.is in absurd cc
    ] in
    sym (not-refused h c.args.before (omega (arith, c.message_count.ensures, c.if-before-message_count.false)) c.first_queued.result (sym (c.first_queued.ensures.first h c.requires)) past
    (omega (arith, c.prunings.ensures, c.if-prunings-lt-PRUNINGS_MAX.true)))

pub returns-in_default-2-clause-answer : goal.returns-in_default-2-clause-answer
returns-in_default-2-clause-answer g c =
    let h = c.args.log.now.history in
    let past : (n : ℕ) → c.first_queued.result ≡ Some n → c.args.before ≤ n = λ n is. elim c.in_default.branch [
      | in_default-via-in-Some+else-number-before w ↦ subst (λ k. c.args.before ≤ k) (same_Some w.in-Some.number n (sym w.in-Some.is ∙ is)) w.if-number-before.false
      | in_default-via-in_default w ↦ let none = w.in_default.is in absurd cc
    ] in
    sym (refused-many h c.args.before (omega (arith, c.message_count.ensures, c.if-before-message_count.false)) c.first_queued.result (sym (c.first_queued.ensures.first h c.requires)) past
    (omega (arith, c.prunings.ensures, c.if-prunings-lt-PRUNINGS_MAX.false)))
