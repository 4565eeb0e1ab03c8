use Rattle.std.proofs.lemmas.Result.{err_from_is_err_and}
use Rattle.opening_records.specs.inner.Decoding.{many_at, slot_at}
use Rattle.opening_records.proofs.Loop.{goes_on, ends, is_done}
use Rattle.opening_records.proofs.parts.slots_of.Goals as goal

pub returns-in_err-slot : goal.returns-in_err-slot
returns-in_err-slot c =
    let p = err_from_is_err_and c.from_residual.result c.from_residual.ensures.1 in
    rw (p.1, p.2) (ends slot_at c.in_err-slot.field-0.0 c.loop.slots c.args.count c.loop.counter c.loop.rest.now (many_at slot_at c.args.count c.args.bytes.now) c.loop-test.true c.in_err-slot.ensures.gives c.loop.invariant)

pub loop-preserved : goal.loop-preserved
loop-preserved c =
    rw c.in_ok-push.ensures.ok (goes_on slot_at c.loop.slots c.args.count c.loop.counter c.loop.rest.now c.in_ok-slot.slot c.in_ok-slot.after.now (many_at slot_at c.args.count c.args.bytes.now) c.loop-test.true c.in_ok-slot.ensures.gives c.loop.invariant)

pub returns : goal.returns
returns c = is_done slot_at c.loop.slots c.args.count c.loop.counter c.loop.rest.now (many_at slot_at c.args.count c.args.bytes.now) c.loop-test.false c.loop.invariant
