use Rattle.std.proofs.Common.{◌≡◌, ℕ, Option, None, Some, refl, sym, ap, ◌∙◌, subst}
use Rattle.event_log.specs.History.{History}
use Rattle.book_core.specs.inner.Questions.{first_live, live_at}
use Rattle.book_lock.specs.Rises.{SharedBook}
use Rattle.book_lock.specs.Log.{IsLogged}
use Rattle.book_lock.specs.inner.Reading.{first_live_at}
use Rattle.book_lock.proofs.shared.Shared.first_live.Goals as goal

-- the first message that is still to be delivered, with its first such destination or with none
found : (h : History) (n d : ℕ) → first_live h ≡ Some n → live_at h n ≡ Some d → Some (n, d) ≡ first_live_at h
found h n d first at = rw first (rw at refl)

lost : (h : History) (n : ℕ) → first_live h ≡ Some n → live_at h n ≡ None → ◌≡◌ {A = Option (ℕ × ℕ)} None (first_live_at h)
lost h n first at = rw first (rw at refl)

pub returns-in_err-d : goal.returns-in_err-d
returns-in_err-d g c =
    let v : SharedBook = c.lock-locked.result.value in
    let n = c.in_ok-number.number in
    let first : first_live v.book ≡ Some n = subst (λ (x : SharedBook). first_live x.book ≡ Some n) c.deref_mut.ensures.value (sym c.in_ok-number.ensures.first) in
    let same : c.book.result.now ≡ v.book = c.book.ensures ∙ ap (λ (x : SharedBook). x.book) (c.deref-2.ensures ∙ c.first_live.ensures.same ∙ c.deref_mut.ensures.value) in
    record {
      book = v.book;
      logged = subst (λ (x : SharedBook). IsLogged g.A.Sharing.opening x.book) c.deref.ensures c.book_is_logged.ensures;
      holds = c.from_residual-in_err-d.ensures ∙ lost v.book n first (ap (λ h. live_at h n) (sym same) ∙ sym c.live_at.ensures ∙ c.in_err-d.was);
    }

pub returns : goal.returns
returns g c =
    let v : SharedBook = c.lock-locked.result.value in
    let n = c.in_ok-number.number in
    let first : first_live v.book ≡ Some n = subst (λ (x : SharedBook). first_live x.book ≡ Some n) c.deref_mut.ensures.value (sym c.in_ok-number.ensures.first) in
    let same : c.book.result.now ≡ v.book = c.book.ensures ∙ ap (λ (x : SharedBook). x.book) (c.deref-2.ensures ∙ c.first_live.ensures.same ∙ c.deref_mut.ensures.value) in
    record {
      book = v.book;
      logged = subst (λ (x : SharedBook). IsLogged g.A.Sharing.opening x.book) c.deref.ensures c.book_is_logged.ensures;
      holds = found v.book n c.in_ok-d.d first (ap (λ h. live_at h n) (sym same) ∙ sym c.live_at.ensures ∙ c.in_ok-d.was);
    }
