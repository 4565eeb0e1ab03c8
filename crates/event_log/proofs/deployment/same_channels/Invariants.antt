use Rattle.std.proofs.Common.{◌≡◌, drop}
use Rattle.std.specs.Cmp.Lexicographic.{pointwise}
use Rattle.event_log.specs.Deployment.{same_name}
use Rattle.event_log.proofs.deployment.same_channels.Given as goal

abbrev pub invariant-loop-place : goal.invariant-loop-place
invariant-loop-place l = pointwise same_name (drop l.place l.old.channels) (drop l.place l.new.channels) ≡ pointwise same_name l.old.channels l.new.channels
