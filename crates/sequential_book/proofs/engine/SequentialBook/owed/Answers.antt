use Rattle.std.proofs.Common.{◌≡◌, ◌+◌, sym, ◌∙◌, ap, arith, ℕ}
use Rattle.std.specs.Prelude.{sum_by}
use Rattle.std.specs.List.{range_with_len}
use Rattle.event_log.specs.Answers.{attempts_max}
use Rattle.event_log.specs.History.{History, message_count, plan_in_force, slot}
use Rattle.event_log.specs.Room.{message_total, slot_owed, total}
use Rattle.sequential_book.proofs.Adding.{sum-push}
use Rattle.sequential_book.proofs.engine.SequentialBook.owed.Goals as goal

-- what message n owes
abbrev owes_of : History → ℕ → ℕ
owes_of h n = message_total (λ d. slot_owed (attempts_max (plan_in_force h) d)) (slot h n)

pub loop-number-preserved : goal.loop-number-preserved
loop-number-preserved c = record {
  owed_is = ap (λ owed. owed + c.in_ok-owed.field-0) c.loop-number.invariant.owed_is
      ∙ (ap (λ part. sum_by (owes_of c.args.self.now) (range_with_len 0 c.loop-number.number) + part) c.in_ok-owed.ensures.value
      ∙ sym (sum-push (owes_of c.args.self.now) c.loop-number.number));
  few = let bound = c.in_ok-owed.ensures.bound in omega arith;
}

pub overflow_add-owed : goal.overflow_add-owed
overflow_add-owed c =
    let part = c.in_ok-owed.ensures.bound in
    let so_far = c.loop-number.invariant.few in
    let few = c.message_count-number-end.ensures.bound in
    omega arith

pub returns : goal.returns
unfolding total
returns c =
    let count = c.message_count-number-end.ensures.value in
    let all : c.loop-number.number ≡ message_count c.args.self.now = omega arith in
    c.loop-number.invariant.owed_is ∙ ap (λ k. sum_by (owes_of c.args.self.now) (range_with_len 0 k)) all
