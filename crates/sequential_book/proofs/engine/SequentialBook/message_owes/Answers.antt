use Rattle.std.proofs.Common.{◌≡◌, ◌+◌, sym, ◌∙◌, ap, arith, ℕ}
use Rattle.std.specs.Prelude.{sum_by}
use Rattle.std.specs.List.{range_with_len}
use Rattle.std.specs.Option.{option_map_or}
use Rattle.event_log.specs.Answers.{attempts_max}
use Rattle.event_log.specs.History.{History, plan_in_force, slot}
use Rattle.event_log.specs.Room.{slot_owed}
use Rattle.sequential_book.proofs.Adding.{sum-push}
use Rattle.sequential_book.proofs.engine.SequentialBook.message_owes.Goals as goal

-- what the slot of message n at d owes
abbrev owes_at : History → ℕ → ℕ → ℕ
owes_at h n d = option_map_or (slot_owed (attempts_max (plan_in_force h) d)) (slot h n d) 0

pub loop-d-preserved : goal.loop-d-preserved
loop-d-preserved c = record {
  owes_is = ap (λ owes. owes + c.from.result) c.loop-d.invariant.owes_is
      ∙ (ap (λ part. sum_by (owes_at c.args.self.now c.args.number) (range_with_len 0 c.loop-d.d) + part) (c.from.ensures ∙ c.in_ok-slot_owes.ensures.value)
      ∙ sym (sum-push (owes_at c.args.self.now c.args.number) c.loop-d.d));
  few = omega arith;
}

pub returns-clause-value : goal.returns-clause-value
returns-clause-value c =
    let all : c.loop-d.d ≡ 32 = omega arith in
    c.loop-d.invariant.owes_is ∙ ap (λ k. sum_by (owes_at c.args.self.now c.args.number) (range_with_len 0 k)) all
