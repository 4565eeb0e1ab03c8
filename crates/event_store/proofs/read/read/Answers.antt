use Rattle.std.proofs.Common.{rules, inr, ◌≡◌, true, false, refl, map, arith, [], ◌∷◌, ◌++◌}
use Rattle.std.proofs.lemmas.List.{map-append, length-map}
use Rattle.event_store.specs.Records.{contents_of}
use Rattle.event_store.proofs.FailureLemmas.{numbered_out}
use Rattle.event_store.proofs.ReadLemmas.{started, stepped, stray, ended, chosen}
use Rattle.event_store.proofs.read.read.Goals as goal

pub loop-number-init : goal.loop-number-init
loop-number-init g c =
    rw (c.new-all.ensures.items) (
      c.in_ok-seek.ensures.live,
      λ clean. let begun = started c.args.first (g.S.Store.view c.args.store.now) (g.S.Store.view c.seek.new.self) _ _ c.new-key.ensures (c.in_ok-seek.ensures.ok clean) in
          (begun.0, begun.1, c.in_ok-seek.ensures.sound clean),
      c.seek.ensures.quiet,
      omega arith,
    )

pub returns-then-not-branch-clause-ok : goal.returns-then-not-branch-clause-ok
returns-then-not-branch-clause-ok g c clean =
    let was = c.loop-number.invariant.1 (omega (arith, c.next.ensures.quiet.clean)) in
    let step = c.in_ok-next.ensures.ok clean in
    ended c.args.first (g.S.Store.view c.args.store.now) (g.S.Store.view c.loop-number.store) (g.S.Store.view c.next.new.self) _ c.next.new.row was.0 was.1 (chosen _ _ _ _ false c.if-not-branch.true step)

pub returns-in_default-clause-ok : goal.returns-in_default-clause-ok
returns-in_default-clause-ok g c clean holds =
    let was = c.loop-number.invariant.1 (omega (arith, c.next.ensures.quiet.clean)) in
    let step = c.in_ok-next.ensures.ok clean in
    stray c.args.first (g.S.Store.view c.args.store.now) (g.S.Store.view c.loop-number.store) (g.S.Store.view c.next.new.self) _ _ was.0 was.1 c.loop-number.number (chosen _ _ _ _ true c.if-not-branch.false step) (rw c.in_default.is at c.in_ok-held.ensures) (rw (length-map) c.loop-number.invariant.3) holds

pub loop-number-preserved : goal.loop-number-preserved
loop-number-preserved g c =
    let inv = c.loop-number.invariant in
    let grown : map contents_of c.push.new.self.items ≡ map contents_of c.loop-number.all.items ++ contents_of c.in-Some.«record» ∷ [] =
    rw (c.in_ok-push.ensures.items, map-append) refl in (
      c.in_ok-next.ensures.stay 0 inv.0,
      λ clean. let was = inv.1 (omega (arith, c.next.ensures.quiet.clean)) in
          let took = stepped c.args.first (g.S.Store.view c.args.store.now) (g.S.Store.view c.loop-number.store) (g.S.Store.view c.next.new.self) _ _ was.0 was.1 c.loop-number.number _ _ (chosen _ _ _ _ true c.if-not-branch.false (c.in_ok-next.ensures.ok clean)) (rw c.in-Some.is at c.in_ok-held.ensures) (rw (length-map) inv.3) grown in
          (took.0, took.1, was.2),
      search rules,
      omega (arith, c.in_ok-push.ensures.len, inv.3),
    )

pub returns-clause-cause : goal.returns-clause-cause
returns-clause-cause g c clean =
    let inv = c.loop-number.invariant in
    let was = inv.1 clean in
    inr (was.2, numbered_out c.args.first c.loop-number.number (g.S.Store.view c.args.store.now) (g.S.Store.view c.loop-number.store) _ was.1 (rw (length-map) inv.3) (omega (arith, c.loop-number-test.false)))
