use Rattle.std.proofs.Common.{ap, ◌∙◌, subst}
use Rattle.event_log.specs.Counting.{counted}
use Rattle.book_lock.specs.Rises.{SharedBook}
use Rattle.book_lock.specs.Log.{IsLogged}
use Rattle.book_lock.proofs.shared.Shared.counts.Goals as goal

pub returns-clause-read : goal.returns-clause-read
returns-clause-read g c =
    record {
      book = c.lock-locked.result.value.book;
      logged = subst (λ (x : SharedBook). IsLogged g.A.Sharing.opening x.book) c.deref.ensures c.book_is_logged.ensures;
      holds = c.counts.ensures.counts ∙ ap (λ (x : SharedBook). counted x.book) c.deref_mut.ensures.value;
    }
