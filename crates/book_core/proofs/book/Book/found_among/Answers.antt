use Rattle.std.proofs.Common.{◌≡◌, ℕ, ◌-◌, ◌≤◌, ◌++◌, ◌∷◌, [], Bool, inl, inr, refl, sym, ◌∙◌, ap, arith}
use Rattle.std.specs.Prelude.{filter}
use Rattle.std.specs.List.{range_with_len}
use Rattle.event_log.proofs.OneMore.{lt-tells}
use Rattle.book_core.specs.inner.Questions.{has_control_id}
use Rattle.book_core.proofs.Asked.{one-filtered, none-filtered}
use Rattle.book_core.proofs.book.Book.found_among.Goals.{then-has_control_id+in_ok-push, else-has_control_id}
use Rattle.book_core.proofs.book.Book.found_among.Goals as goal

pub loop-number-init : goal.loop-number-init
loop-number-init g c =
    let none : c.args.from - c.args.from ≡ 0 = omega arith in
    (c.new-found.ensures.items ∙ ap (λ k. filter (has_control_id c.args.self.now c.args.id.now) (range_with_len c.args.from k)) (sym none), λ less. refl)

pub loop-number-preserved : goal.loop-number-preserved
loop-number-preserved g c =
    let p : ℕ → Bool = has_control_id c.args.self.now c.args.id.now in
    let from : c.args.from ≤ c.loop-number.number = omega (arith, c.loop-number.auto.number) in (
      elim c.if-has_control_id.branch [
        | then-has_control_id+in_ok-push w ↦
            ap (λ v. v.items) w.found-is
            ∙ (w.in_ok-push.ensures.items
            ∙ (ap (λ xs. xs ++ c.loop-number.number ∷ []) c.loop-number.invariant.0
            ∙ one-filtered p c.args.from c.loop-number.number from (sym c.has_control_id.ensures ∙ w.if-has_control_id.true)))
        | else-has_control_id w ↦
            ap (λ v. v.items) w.found-is
            ∙ (c.loop-number.invariant.0 ∙ none-filtered p c.args.from c.loop-number.number from (sym c.has_control_id.ensures ∙ w.if-has_control_id.false))
      ],
      λ less. omega arith,
    )

pub returns : goal.returns
returns g c =
    let whole : c.loop-number.number - c.args.from ≡ c.args.to - c.args.from = elim (lt-tells c.args.from c.args.to) [
      | inl w ↦ let less = w.1 in omega (arith, c.loop-number.auto.number, c.loop-number.auto.number-end, c.loop-number-test.false)
      | inr w ↦ let less = w.1 in let same = c.loop-number.invariant.1 less in omega arith
    ] in
    c.loop-number.invariant.0 ∙ ap (λ k. filter (has_control_id c.args.self.now c.args.id.now) (range_with_len c.args.from k)) whole
