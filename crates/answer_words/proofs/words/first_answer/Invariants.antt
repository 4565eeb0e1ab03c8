use Rattle.std.proofs.Common.{◌≡◌, ◌-◌, find, take}
use Rattle.answer_words.specs.inner.Words.{is_answer_to, messages_in}
use Rattle.answer_words.proofs.words.first_answer.Given as goal

-- what is found among the events is found among those that are left
abbrev pub invariant-loop : goal.invariant-loop
invariant-loop l =
    find (is_answer_to l.control_id) (messages_in (take (9 - l.counter) l.framer.to_come))
    ≡ find (is_answer_to l.control_id) (messages_in (take 9 l.initial.framer.to_come))
