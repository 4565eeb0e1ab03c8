use Rattle.std.proofs.Common.{◌≡◌, ◌<◌, true, false, length, sym, ◌∙◌, arith}
use Rattle.std.specs.Prelude.{slice_get}
use Rattle.event_log.specs.inner.Deployment.{same_at}
use Rattle.event_log.proofs.Naming.{not-alike, rest-alike}
use Rattle.event_log.proofs.deployment.same_channels.Goals as goal

pub returns-then-not-same_name : goal.returns-then-not-same_name
returns-then-not-same_name c =
    let many : length c.args.old.now.channels ≡ length c.args.new.now.channels = omega (arith, c.channels.ensures, c.channels-2.ensures, c.if-channels.false) in
    let inside : c.loop-place.place < length c.args.old.now.channels = omega (arith, c.loop-place-test.true, c.channels-place-end.ensures) in
    let is : same_at (slice_get c.args.old.now.channels c.loop-place.place) (slice_get c.args.new.now.channels c.loop-place.place) ≡ false = sym c.same_name.ensures ∙ c.if-not-same_name.true in
    sym (not-alike c.args.old.now.channels c.args.new.now.channels c.loop-place.place many inside is) ∙ c.loop-place.invariant

pub loop-place-preserved : goal.loop-place-preserved
loop-place-preserved c =
    let many : length c.args.old.now.channels ≡ length c.args.new.now.channels = omega (arith, c.channels.ensures, c.channels-2.ensures, c.if-channels.false) in
    let inside : c.loop-place.place < length c.args.old.now.channels = omega (arith, c.loop-place-test.true, c.channels-place-end.ensures) in
    let is : same_at (slice_get c.args.old.now.channels c.loop-place.place) (slice_get c.args.new.now.channels c.loop-place.place) ≡ true = sym c.same_name.ensures ∙ c.if-not-same_name.false in
    rest-alike c.args.old.now.channels c.args.new.now.channels c.loop-place.place many inside is ∙ c.loop-place.invariant
