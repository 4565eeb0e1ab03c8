use Rattle.std.proofs.Common.{◌≡◌, ◌<◌, ℕ, true, false}
use Rattle.service_pages.specs.inner.Attention.{is_destination_troubled}
use Rattle.service_pages.specs.inner.Levels.{is_calm}
use Rattle.service_pages.proofs.levels.outer_level.Given as goal

-- where all is well so far, no destination so far is in trouble
abbrev pub invariant-loop-index : goal.invariant-loop-index
invariant-loop-index l = is_calm l.level ≡ true → (d : ℕ) → d < l.index → is_destination_troubled l.view d ≡ false
