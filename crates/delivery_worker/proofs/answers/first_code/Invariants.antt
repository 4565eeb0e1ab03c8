use Rattle.std.proofs.Common.{◌≡◌, drop, find}
use Rattle.std.specs.List.{flat_map}
use Rattle.std.specs.Option.{option_to_list}
use Rattle.delivery_worker.specs.Answers.{answers_to}
use Rattle.delivery_worker.proofs.answers.first_code.Given as goal

abbrev pub invariant-loop-answer : goal.invariant-loop-answer
invariant-loop-answer l =
    find (answers_to l.control_id) (flat_map option_to_list (drop l.answer-index l.answers)) ≡ find (answers_to l.control_id) (flat_map option_to_list l.answers)
