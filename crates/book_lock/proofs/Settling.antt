-- What a pruning of what is settled comes to.
use Rattle.std.proofs.Common.{◌≡◌, ◌⊎◌, ℕ, ◌<◌, true, false, cond, nat_lt, None, Some, inl, inr, ◌∙◌, ap}
use Rattle.std.specs.Prelude.{IfErr, IfOk, OnErr, Result, Ok, Err}
use Rattle.event_log.specs.declared.refusal.PruneRefusal.{PruneRefusal}
use Rattle.event_log.specs.declared.refusal.PruneRefusal.TheVariants.{NoMemory, TooMany}
use Rattle.event_log.specs.Folding.{prune_answer, pruned}
use Rattle.event_log.proofs.OneMore.{lt-tells}
use Rattle.book_core.specs.inner.Questions.{settled_before}
use Rattle.book_lock.specs.Rises.{SharedBook}
use Rattle.book_lock.specs.inner.Rises.{with_book}
use Rattle.book_lock.specs.inner.Tidies.{IsPruning, IsSettledRefusal, left_by, tidying_of}

module _ (h : SharedBook) (b : ℕ) (answered : prune_answer h.book b ≡ cond (nat_lt h.book.opening.prunings 1000) None (Some TooMany)) where
  few : nat_lt h.book.opening.prunings 1000 ≡ true → prune_answer h.book b ≡ None
  few under = answered ∙ ap (λ t. cond t None (Some TooMany)) under

  many : nat_lt h.book.opening.prunings 1000 ≡ false → prune_answer h.book b ≡ Some TooMany
  many over = answered ∙ ap (λ t. cond t None (Some TooMany)) over

  -- only memory and the number of prunings speak against it
  pub only : (e : PruneRefusal) → (prune_answer h.book b ≡ Some e) ⊎ ((prune_answer h.book b ≡ None) × (e ≡ NoMemory)) → IsSettledRefusal h e
  only e why = elim (lt-tells h.book.opening.prunings 1000) [
    | inl w ↦ let none = few w.0 in elim why [
      | inl v ↦ absurd cc
      | inr v ↦ inr (v.1, w.1)
    ]
    | inr w ↦ let some = many w.0 in elim why [
      | inl v ↦ let same : e ≡ TooMany = cc in inl (same, w.1)
      | inr v ↦ let none = v.0 in absurd cc
    ]
  ]

  pub made : prune_answer h.book b ≡ None → h.book.opening.prunings < 1000
  made none = elim (lt-tells h.book.opening.prunings 1000) [
    | inl w ↦ w.1
    | inr w ↦ let some = many w.0 in absurd cc
  ]

-- what comes of it
pub pruning_of : (keep k : ℕ) (h : SharedBook) (answer : Result ℕ PruneRefusal) → (k ≡ keep) ⊎ (k ≡ 0)
    → IfOk answer (λ b. prune_answer h.book b ≡ None) → IfOk answer (λ b. b ≡ settled_before k h.book) → IfErr answer (IsSettledRefusal h) → IsPruning keep h (tidying_of answer)
pruning_of keep k h (Ok b) which allowed before refused = (
  allowed,
  elim which [
    | inl w ↦ inl (before ∙ ap (λ j. settled_before j h.book) w)
    | inr w ↦ inr (before ∙ ap (λ j. settled_before j h.book) w)
  ],
)
pruning_of keep k h (Err e) which allowed before refused = refused

pub left : (h new : SharedBook) (answer : Result ℕ PruneRefusal) → IfOk answer (λ b. new ≡ with_book h (pruned b h.book)) → OnErr answer (new ≡ h)
    → new ≡ left_by h (tidying_of answer)
left h new (Ok b) folded err = folded
left h new (Err e) folded err = err
