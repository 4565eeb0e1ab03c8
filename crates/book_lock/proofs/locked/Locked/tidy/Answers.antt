use Rattle.std.proofs.Common.{sym, ◌∙◌, ap}
use Rattle.book_core.specs.inner.Questions.{is_tight}
use Rattle.book_lock.specs.Rises.{SharedBook}
use Rattle.book_lock.proofs.MakingRoom.{tight_pruning}
use Rattle.book_lock.proofs.locked.Locked.tidy.Goals as goal

pub returns-clause-tidying : goal.returns-clause-tidying
returns-clause-tidying g c =
    tight_pruning c.args.keep c.args.self.now c.prune_for_room.result
    (ap (λ (h : SharedBook). is_tight h.book) (sym c.self.view_is) ∙ (sym c.is_tight.ensures ∙ c.if-not-is_tight.false))
    c.prune_for_room.ensures.pruning
