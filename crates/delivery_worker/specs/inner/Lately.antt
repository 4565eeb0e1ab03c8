-- Which control ids were sent over a connection lately, and how long a new connection is watched.
use Rattle.std.specs.Prelude.{ℕ, ◌+◌, ◌*◌, ◌%◌, ◌^◌, ◌==◌, nat_lt, Bool, List, [], ◌∷◌, ◌++◌, if◌then◌else◌, length, max, min}
use Rattle.std.specs.List.{list_any, remove}

-- the mark of a control id, from that of the bytes before: equal ids have equal marks
abbrev pub mark_after : ℕ → List ℕ → ℕ
mark_after mark [] = mark
mark_after mark (byte ∷ rest) = mark_after (((mark * 1099511628211) % 2 ^ 64 + byte) % 2 ^ 64) rest

-- the mark of a control id
abbrev pub mark_of : List ℕ → ℕ
mark_of id = mark_after 0 id

-- whether a control id has the mark of one of these
abbrev pub was_sent : List ℕ → List ℕ → Bool
was_sent id marks = list_any (λ mark. mark == mark_of id) marks

-- the marks of the last 100 control ids, oldest first, once this one was sent too
abbrev pub marks_with : List ℕ → List ℕ → List ℕ
marks_with id marks = (if nat_lt (length marks) 100 then marks else remove marks 0) ++ mark_of id ∷ []

-- for how many seconds a new connection is watched before a message is sent over it, by how many it was before, and the
-- destination's timeout: after the first attempt that was cut the timeout, 10 at most; then twice as many as before, and as
-- many as the timeout at least, but 60 at most
abbrev pub next_watch : ℕ → ℕ → ℕ
next_watch seconds timeout =
    if seconds == 0 then min timeout 10 else min (max timeout (seconds * 2)) 60
