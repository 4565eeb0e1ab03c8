use Rattle.std.proofs.Common.{arith, refl, subst, ◌≡◌, ◌<◌}
use Rattle.lane_scan.specs.inner.Scan.{IsNowhere}
use Rattle.lane_scan.proofs.Bits.{lowest-next, ahead-behind, nowhere-on, next-from}
use Rattle.lane_scan.proofs.Ahead.next.Goals as goal

pub returns-then-ahead-text-clause-place : goal.returns-then-ahead-text-clause-place
returns-then-ahead-text-clause-place c =
    let now = c.loop-ahead.invariant in
    subst (IsNowhere c.args.byte c.args.text.now c.args.self.at) c.if-ahead-text.true
    (nowhere-on c.args.byte c.args.self.at c.loop-ahead.ahead.at c.loop-ahead.ahead.end c.loop-ahead.ahead.bits c.args.text.now now.ahead c.loop-ahead-test.true now.none)

pub loop-ahead-preserved : goal.loop-ahead-preserved
loop-ahead-preserved c =
    let now = c.loop-ahead.invariant in
    record {
      ahead = c.look-ahead.ensures.ahead;
      behind = let o = now.ahead.ordered in let b = now.behind in omega arith;
      none = rw c.look-ahead.ensures.at (nowhere-on c.args.byte c.args.self.at c.loop-ahead.ahead.at c.loop-ahead.ahead.end c.loop-ahead.ahead.bits c.args.text.now now.ahead c.loop-ahead-test.true now.none);
    }

pub returns-clause-ahead : goal.returns-clause-ahead
returns-clause-ahead c =
    let now = c.loop-ahead.invariant in
    let found = lowest-next c.args.byte c.loop-ahead.ahead.at c.loop-ahead.ahead.end c.loop-ahead.ahead.bits c.args.text.now now.ahead (omega (arith, c.loop-ahead-test.false)) in
    ahead-behind c.args.byte c.loop-ahead.ahead.at c.loop-ahead.ahead.end c.loop-ahead.ahead.bits _ _ c.args.text.now now.ahead found.0 refl

pub returns-clause-place : goal.returns-clause-place
returns-clause-place c =
    let now = c.loop-ahead.invariant in
    let found = lowest-next c.args.byte c.loop-ahead.ahead.at c.loop-ahead.ahead.end c.loop-ahead.ahead.bits c.args.text.now now.ahead (omega (arith, c.loop-ahead-test.false)) in
    (next-from c.args.byte c.args.self.at c.loop-ahead.ahead.at _ c.args.text.now now.behind now.none found.1, refl)
