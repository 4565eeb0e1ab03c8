-- Whether a service works, as its service manager is told.
use Rattle.std.specs.Prelude.{ℕ, Bool, true, not, ◌&&◌, ◌==◌, Option, None, Some}
use Rattle.service_run.specs.declared.supervision.Progress.{Progress}

-- a journal has begun a step since then, by how many it had begun; or there is none
abbrev pub has_stepped : Option ℕ → Option ℕ → Bool
has_stepped (Some before) (Some now) = not (now == before)
has_stepped None now = true
has_stepped (Some before) None = true

-- the warden has looked at the book since then, and the journal has begun a step
abbrev pub has_moved : Progress → Progress → Bool
has_moved before now = not (now.looks == before.looks) && has_stepped before.steps now.steps
