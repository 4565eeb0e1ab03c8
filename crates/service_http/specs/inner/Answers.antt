-- What is sent for an answer.
use Rattle.std.specs.Prelude.{ℕ, Bool, List, ◌++◌, if◌then◌else◌}

-- a head, and the body behind it where that is wanted
abbrev pub with_body : List ℕ → List ℕ → Bool → List ℕ
with_body head body has_body = if has_body then head ++ body else head
