-- What a window's table says of the receipts.
use Rattle.std.proofs.Common.{◌≡◌, ◌≢◌, ℕ, ◌+◌, ◌<◌, ◌≤◌, Bool, true, false, cond, List, [], ◌∷◌, Some, None, ltb, inl, inr, ◌↔◌, sym, ap, subst, refl, ◌∙◌, arith}
use Rattle.std.specs.Prelude.{IsTrue}
use Rattle.std.proofs.lemmas.Bool.{false≢true}
use Rattle.book_core.specs.declared.receipt.Receipt.{Receipt}
use Rattle.book_lock.specs.declared.receipt_audit.AuditFault.{AuditFault}
use Rattle.book_lock.specs.declared.receipt_audit.AuditFault.TheVariants.{Missing, Doubled, Differs}
use Rattle.book_lock.specs.declared.windows.ReceiptMatch.{ReceiptMatch}
use Rattle.book_lock.specs.declared.windows.ReceiptMatch.TheVariants.{Never, Right, Wrong, Often}
use Rattle.book_lock.specs.Auditing.{naming, receipts_due, fault_place, IsRightAt, IsFault, IsUnfolded, is_folded}
use Rattle.book_lock.specs.inner.Windows.{IsNamed, fault_at}
use Rattle.book_lock.specs.Rises.{SharedBook}
use Rattle.book_lock.proofs.Naming.{due_folded, split_by}

none_if : {X : Type 0} (xs : List X) → (xs ≢ [] → IsTrue false) → xs ≡ []
none_if [] h = refl
none_if (x ∷ xs) h = absurd (false≢true (h (λ e. cc)))

-- no fault is told where the receipts are right
right_if : (h : SharedBook) (rs : List Receipt) (p : ℕ) (n : ReceiptMatch) (t : Bool) → fault_at p n t ≡ None → IsNamed h rs p n → IsTrue t ↔ (naming p (receipts_due h) ≢ []) → naming p rs ≡ naming p (receipts_due h)
right_if h rs p Never true none named due = cc
right_if h rs p Never false none named due = named ∙ sym (none_if (naming p (receipts_due h)) due.1)
right_if h rs p Right t none named due = named.1
right_if h rs p Wrong t none named due = cc
right_if h rs p Often t none named due = cc

-- a fault that is told is one, at that place
fault_if : (h : SharedBook) (rs : List Receipt) (p : ℕ) (n : ReceiptMatch) (t : Bool) (f : AuditFault) → fault_at p n t ≡ Some f → IsNamed h rs p n → IsTrue t ↔ (naming p (receipts_due h) ≢ []) → IsFault h rs f × (fault_place f ≡ p)
fault_if h rs p Never true f is named due =
    let e : Missing p ≡ f = cc in
    subst (λ (w : AuditFault). IsFault h rs w × (fault_place w ≡ p)) e ((named, due.0 refl), refl)
fault_if h rs p Never false f is named due = cc
fault_if h rs p Right t f is named due = cc
fault_if h rs p Wrong t f is named due =
    let e : Differs p ≡ f = cc in
    subst (λ (w : AuditFault). IsFault h rs w × (fault_place w ≡ p)) e (named, refl)
fault_if h rs p Often t f is named due =
    let e : Doubled p ≡ f = cc in
    subst (λ (w : AuditFault). IsFault h rs w × (fault_place w ≡ p)) e (named, refl)

-- the same, where a folded place is taken as named by none
pub right_open : (h : SharedBook) (rs : List Receipt) (p : ℕ) (n : ReceiptMatch) (t : Bool) → fault_at p (cond (is_folded h p) Never n) t ≡ None → IsNamed h rs p n → IsTrue t ↔ (naming p (receipts_due h) ≢ []) → IsRightAt h rs p
right_open h rs p n t none named due stays = right_if h rs p n t (ap (λ b. fault_at p (cond b Never n) t) (sym stays) ∙ none) named due

pub fault_open : (h : SharedBook) (rs : List Receipt) (p : ℕ) (n : ReceiptMatch) (t : Bool) (f : AuditFault) → fault_at p (cond (is_folded h p) Never n) t ≡ Some f → IsNamed h rs p n
    → IsTrue t ↔ (naming p (receipts_due h) ≢ []) → (IsFault h rs f × IsUnfolded h f) × (fault_place f ≡ p)
fault_open h rs p n t f is named due = by (is_folded h p) t refl is due
  where
    by : (b u : Bool) → is_folded h p ≡ b → fault_at p (cond b Never n) u ≡ Some f → IsTrue u ↔ (naming p (receipts_due h) ≢ []) → (IsFault h rs f × IsUnfolded h f) × (fault_place f ≡ p)
    by true true folded is due = absurd (due.0 refl (due_folded h p folded))
    by true false folded is due = cc
    by false u stays is due = let one = fault_if h rs p n u f is named due in ((one.0, ap (is_folded h) one.1 ∙ stays), one.1)

-- one more place that is right
pub right_more : (h : SharedBook) (rs : List Receipt) (from k : ℕ) → ((p : ℕ) → from ≤ p → p < from + k → IsRightAt h rs p) → IsRightAt h rs (from + k) → (p : ℕ) → from ≤ p → p < from + (k + 1) → IsRightAt h rs p
right_more h rs from k below here p after before =
    elim (split_by (from + k) p (ltb p (from + k)) refl) [
      | inl last ↦ subst (λ w. IsRightAt h rs w) (omega (arith, last, before)) here
      | inr inside ↦ below p after inside
    ]
