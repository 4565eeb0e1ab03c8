use Rattle.std.proofs.Common.{◌≡◌, ◌≤◌, ◌-◌, ◌++◌, drop, length}
use Rattle.answer_words.specs.inner.Words.{shown_within}
use Rattle.answer_words.proofs.showing.shown.Given as goal

-- there is room for the text, and with what is shown of the rest in the room that is left it is what is shown of all
abbrev pub invariant-loop-byte : goal.invariant-loop-byte
invariant-loop-byte l =
    (length l.text.items ≤ 200)
    × (l.text.items ++ shown_within (200 - length l.text.items) (drop l.byte-index l.bytes) ≡ shown_within 200 l.bytes)
