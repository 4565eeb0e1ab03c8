use Rattle.std.proofs.Common.{◌≡◌, refl, sym, ◌∙◌, ap, arith}
use Rattle.std.specs.Prelude.{slice_get}
use Rattle.row_store.specs.inner.Rows.{front_of}
use Rattle.event_log.specs.History.{queue}
use Rattle.book_core.specs.inner.Pruning.{lesser}
use Rattle.book_core.proofs.FirstLive.{first-more, first-none, first_below}
use Rattle.book_core.proofs.Rows.{kept-front}
use Rattle.book_core.proofs.questions.first_queued.Goals as goal

pub loop-d-init : goal.loop-d-init
loop-d-init g c = (refl, λ h agree. sym (first-none h))

pub loop-d-preserved : goal.loop-d-preserved
loop-d-preserved g c = (
  c.front.ensures.unchanged ∙ c.loop-d.invariant.0,
  λ h agree.
      let front : c.front.result ≡ slice_get (queue h c.loop-d.d) 0 = c.front.ensures.first ∙ (ap (front_of c.loop-d.d) c.loop-d.invariant.0 ∙ kept-front h _ agree c.loop-d.d c.loop-d-test.true) in
      c.lesser-first.ensures ∙ (ap (λ o. lesser o c.front.result) (c.loop-d.invariant.1 h agree) ∙ (ap (lesser (first_below h c.loop-d.d)) front ∙ sym (first-more h c.loop-d.d))),
)

pub returns-clause-first : goal.returns-clause-first
returns-clause-first g c = λ h agree.
    let last : c.loop-d.d ≡ 32 = omega (arith, c.loop-d.auto.d-end, c.loop-d-test.false) in
    c.loop-d.invariant.1 h agree ∙ ap (first_below h) last

pub returns-clause-unchanged : goal.returns-clause-unchanged
returns-clause-unchanged g c = c.loop-d.invariant.0
