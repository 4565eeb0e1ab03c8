use Rattle.std.proofs.Common.{◌≡◌, length, map, take, vec_len, vec_capacity}
use Rattle.engine_model.specs.inner.Converse.{step_of}
use Rattle.engine_model.specs.inner.View.{turn_by}
use Rattle.engine_model.proofs.converse.steps_of.Given as goal

-- the steps of the entries so far
abbrev pub invariant-loop-place : goal.invariant-loop-place
invariant-loop-place g l =
    (vec_len l.steps ≡ l.place) × (vec_capacity l.steps ≡ length l.book.entries) × (map turn_by l.steps.items ≡ map step_of (take l.place l.book.entries))
