use Rattle.std.proofs.Common.{◌≡◌, OnOk, subst}
use Rattle.event_log.specs.Folding.{pruned}
use Rattle.book_lock.specs.Rises.{SharedBook}
use Rattle.book_lock.specs.inner.Rises.{with_book}
use Rattle.book_lock.proofs.locked.Locked.prune_keeping.Goals as goal

pub returns-clause-folded : goal.returns-clause-folded
returns-clause-folded g c =
    subst (λ (h : SharedBook). OnOk c.prune-2.result (c.prune-2.new.self ≡ with_book h (pruned c.args.before h.book))) c.keep_unread.ensures c.prune-2.ensures.folded
