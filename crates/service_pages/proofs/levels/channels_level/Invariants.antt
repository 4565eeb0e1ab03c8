use Rattle.std.proofs.Common.{◌≡◌, ◌<◌, ℕ, true, false}
use Rattle.service_pages.specs.inner.Attention.{is_channel_troubled}
use Rattle.service_pages.specs.inner.Levels.{is_calm}
use Rattle.service_pages.proofs.levels.channels_level.Given as goal

-- where all is well so far, no channel so far is in trouble
abbrev pub invariant-loop-index : goal.invariant-loop-index
invariant-loop-index l = is_calm l.level ≡ true → (c : ℕ) → c < l.index → is_channel_troubled l.view c ≡ false
