use Rattle.std.proofs.Common.{◌≡◌, ℕ, ◌-◌, ◌≤◌, ◌++◌, ◌∷◌, [], Option, inl, inr, refl, sym, ◌∙◌, ap, arith}
use Rattle.std.specs.List.{filter_map, range_with_len}
use Rattle.event_log.proofs.OneMore.{lt-tells}
use Rattle.book_core.specs.declared.questions.Failure.{Failure}
use Rattle.book_core.specs.inner.Questions.{failed_as}
use Rattle.book_core.proofs.Asked.{one-mapped, none-mapped}
use Rattle.book_core.proofs.book.Book.failed_among.Goals.{in-Some+in_ok-push, in_default}
use Rattle.book_core.proofs.book.Book.failed_among.Goals as goal

pub loop-number-init : goal.loop-number-init
loop-number-init g c =
    let none : c.args.from - c.args.from ≡ 0 = omega arith in
    (c.new-found.ensures.items ∙ ap (λ k. filter_map (failed_as c.args.self.now c.args.d) (range_with_len c.args.from k)) (sym none), λ less. refl)

pub loop-number-preserved : goal.loop-number-preserved
loop-number-preserved g c =
    let p : ℕ → Option Failure = failed_as c.args.self.now c.args.d in
    let from : c.args.from ≤ c.loop-number.number = omega (arith, c.loop-number.auto.number) in (
      elim c.match-failed.branch [
        | in-Some+in_ok-push w ↦
            ap (λ v. v.items) w.found-is
            ∙ (w.in_ok-push.ensures.items
            ∙ (ap (λ xs. xs ++ w.in-Some.failure ∷ []) c.loop-number.invariant.0
            ∙ one-mapped p c.args.from c.loop-number.number from w.in-Some.failure (sym c.failed.ensures ∙ w.in-Some.is)))
        | in_default w ↦
            ap (λ v. v.items) w.found-is
            ∙ (c.loop-number.invariant.0 ∙ none-mapped p c.args.from c.loop-number.number from (sym c.failed.ensures ∙ w.in_default.is))
      ],
      λ less. omega arith,
    )

pub returns : goal.returns
returns g c =
    let whole : c.loop-number.number - c.args.from ≡ c.args.to - c.args.from = elim (lt-tells c.args.from c.args.to) [
      | inl w ↦ let less = w.1 in omega (arith, c.loop-number.auto.number, c.loop-number.auto.number-end, c.loop-number-test.false)
      | inr w ↦ let less = w.1 in let same = c.loop-number.invariant.1 less in omega arith
    ] in
    c.loop-number.invariant.0 ∙ ap (λ k. filter_map (failed_as c.args.self.now c.args.d) (range_with_len c.args.from k)) whole
