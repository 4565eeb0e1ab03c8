use Rattle.std.proofs.Common.{◌≡◌, ◌<◌, get_or, ◌∙◌, arith}
use Rattle.hl7_head.proofs.Components.{one_component, two_components}
use Rattle.hl7_head.proofs.places.components.Goals as goal
use Rattle.hl7_head.proofs.places.components.Goals.{then-first-field-via-then-first-field, then-first-field-via-else-first-field+then-text-first, then-first-field-via-else-first-field+else-text-first+then-component-repetition}

pub returns-then-first-field : goal.returns-then-first-field
returns-then-first-field c =
    let text = c.args.text.now in
    let found = c.first_of-first.ensures in
    let component = c.component-component.ensures in
    let repetition = c.repetition-repetition.ensures in
    let end = c.first_of-first.result in
    let ends : end < c.args.field.end → get_or text end 0 ≡ c.repetition-repetition.result =
    elim c.then-first-field.branch [
      | then-first-field-via-then-first-field w ↦ λ lt. absurd (omega (arith, w.if-first-field.true, lt))
      | then-first-field-via-else-first-field+then-text-first w ↦ λ lt. found.here lt w.if-text-first.true
      | then-first-field-via-else-first-field+else-text-first+then-component-repetition w ↦ λ lt. w.if-text-first.false ∙ w.if-component-repetition.true
    ] in
    rw (← component, ← repetition)
    (one_component text c.component-component.result c.repetition-repetition.result c.args.field.start c.args.field.end end
    found.behind found.within c.requires.within found.none found.nor ends)

pub returns : goal.returns
returns c =
    let text = c.args.text.now in
    let found = c.first_of-first.ensures in
    let more = c.first_of.ensures in
    let component = c.component-component.ensures in
    let repetition = c.repetition-repetition.ensures in
    let within = found.within in
    let other = c.if-first-field.false in
    rw (← component, ← repetition)
    (two_components text c.component-component.result c.repetition-repetition.result c.args.field.start c.args.field.end c.first_of-first.result c.first_of.result
    found.behind (omega (arith, within, other)) c.requires.within c.if-text-first.false c.if-component-repetition.false
    found.none found.nor more.behind more.within more.none more.nor more.here)
