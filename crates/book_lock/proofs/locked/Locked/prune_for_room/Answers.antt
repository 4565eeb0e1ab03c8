use Rattle.std.proofs.Common.{inl, ◌∙◌, ap, sym}
use Rattle.book_lock.specs.Rises.{SharedBook}
use Rattle.book_lock.specs.inner.Tidies.{left_by}
use Rattle.book_lock.proofs.Settling.{left}
use Rattle.book_lock.proofs.locked.Locked.prune_for_room.Goals as goal

pub returns-in-Err-NoMemory-clause-left : goal.returns-in-Err-NoMemory-clause-left
returns-in-Err-NoMemory-clause-left g c =
    left c.prune_settled.new.self c.prune_settled-in-Err-NoMemory.new.self c.prune_settled-in-Err-NoMemory.result
    c.prune_settled-in-Err-NoMemory.ensures.folded c.prune_settled-in-Err-NoMemory.ensures.err
    ∙ (ap (left_by c.prune_settled.new.self) (sym c.of.ensures) ∙ ap (λ (h : SharedBook). left_by h c.of.result) c.in-Err-NoMemory.ensures.err)

pub returns-in-Ok-clause-pruning : goal.returns-in-Ok-clause-pruning
returns-in-Ok-clause-pruning g c = (c.in-Ok.ensures.allowed, inl c.in-Ok.ensures.before)
