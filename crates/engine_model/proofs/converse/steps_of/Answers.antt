use Rattle.std.proofs.Common.{◌≡◌, length, map, arith}
use Rattle.engine_model.specs.inner.View.{turn_by}
use Rattle.engine_model.proofs.Conversely.{at, came, reached-by, steps-all, steps-more}
use Rattle.engine_model.proofs.converse.steps_of.Goals as goal

pub step_of-requires-clause-framed : goal.step_of-requires-clause-framed
step_of-requires-clause-framed g c = came c.args.book.now c.loop-place.place c.in-Some.entry.now c.rules.ensures.sound.legal (at c.args.book.now c.loop-place.place c.first_place-first_place.result c.in-Some.entry.now c.first_place-first_place.ensures.value c.in-Some.ensures)

pub loop-place-preserved : goal.loop-place-preserved
loop-place-preserved g c = (
  omega (arith, c.push_reserved.ensures.len, c.loop-place.invariant.0),
  omega (arith, c.push_reserved.ensures.capacity, c.loop-place.invariant.1),
  steps-more c.args.book.now.entries c.loop-place.place c.in-Some.entry.now c.loop-place.steps.items c.push_reserved.new.self.items c.in_ok-step_of.field-0 (at c.args.book.now c.loop-place.place c.first_place-first_place.result c.in-Some.entry.now c.first_place-first_place.ensures.value c.in-Some.ensures) c.loop-place.invariant.2 c.push_reserved.ensures.items c.in_ok-step_of.ensures,
)

pub returns-clause-reached : goal.returns-clause-reached
returns-clause-reached g c =
    λ channels keep.
    let whole : c.loop-place.place ≡ length c.args.book.now.entries = omega (arith, c.loop-place-test.false, c.len.ensures, c.first_place-first_place.ensures.value, c.loop-place.auto.place-end) in
    reached-by c.args.book.now channels (map turn_by c.loop-place.steps.items) (steps-all c.args.book.now c.loop-place.place c.loop-place.steps.items whole c.loop-place.invariant.2) c.rules.ensures.sound c.rules.ensures.few keep
