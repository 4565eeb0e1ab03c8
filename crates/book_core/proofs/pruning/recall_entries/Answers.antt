use Rattle.std.proofs.Common.{◌≡◌, ◌+◌, ◌-◌, ◌++◌, ◌∷◌, [], length, sym, ◌∙◌, ap, arith, append_assoc}
use Rattle.book_core.specs.inner.Pruning.{since}
use Rattle.book_core.proofs.Remembering.{below-floor, kept_of, none-kept, one-kept}
use Rattle.book_core.proofs.pruning.recall_entries.Goals as goal
use Rattle.book_core.proofs.pruning.recall_entries.Goals.{then-place-floor+in_ok-arrival+in-Some+in_ok-push, then-place-floor+in_ok-arrival+in_default, else-place-floor}

pub loop-place-preserved : goal.loop-place-preserved
loop-place-preserved g c =
    let h = c.args.log.now.history in
    let first = h.opening.places in
    let k = c.loop-place.place - first in
    let before = c.args.kept.now.items in
    let here : first + k ≡ c.loop-place.place = omega (arith, c.first_place-place.ensures.value, c.loop-place.auto.place) in
    let next : k + 1 ≡ c.loop-place.place + 1 - first = omega arith in
    elim c.if-place-floor.branch [
      | then-place-floor+in_ok-arrival+in-Some+in_ok-push w ↦
          let arrival = w.in-Some.arrival in
          ap (λ v. v.items) w.kept-is
          ∙ (w.in_ok-push.ensures.items
          ∙ (ap (λ xs. xs ++ arrival ∷ []) c.loop-place.invariant
          ∙ (append_assoc before (since c.args.floor (kept_of h first k)) (arrival ∷ [])
          ∙ (ap (λ xs. before ++ xs) (sym (one-kept h c.args.floor first k c.loop-place.place arrival here w.if-place-floor.true
          (sym w.in_ok-arrival.ensures ∙ w.in-Some.is)))
          ∙ ap (λ n. before ++ since c.args.floor (kept_of h first n)) next))))
      | then-place-floor+in_ok-arrival+in_default w ↦
          ap (λ v. v.items) w.kept-is
          ∙ (c.loop-place.invariant
          ∙ (ap (λ xs. before ++ xs) (sym (none-kept h c.args.floor first k c.loop-place.place here (sym w.in_ok-arrival.ensures ∙ w.in_default.is)))
          ∙ ap (λ n. before ++ since c.args.floor (kept_of h first n)) next))
      | else-place-floor w ↦
          ap (λ v. v.items) w.kept-is
          ∙ (c.loop-place.invariant
          ∙ (ap (λ xs. before ++ xs) (sym (below-floor h c.args.floor first k c.loop-place.place here w.if-place-floor.false))
          ∙ ap (λ n. before ++ since c.args.floor (kept_of h first n)) next))
    ]

pub returns : goal.returns
returns g c =
    let h = c.args.log.now.history in
    let whole : c.loop-place.place - h.opening.places ≡ length h.entries = omega (
      arith,
      c.first_place-place.ensures.value,
      c.first_place-place.ensures.within,
      c.len-place-end.ensures,
      c.loop-place.auto.place,
      c.loop-place.auto.place-end,
      c.loop-place-test.false,
    ) in
    c.loop-place.invariant ∙ ap (λ n. c.args.kept.now.items ++ since c.args.floor (kept_of h h.opening.places n)) whole
