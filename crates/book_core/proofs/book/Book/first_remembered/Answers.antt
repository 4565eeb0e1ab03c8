use Rattle.std.proofs.Common.{◌≡◌, ◌-◌, subst}
use Rattle.std.specs.List.{range_with_len}
use Rattle.event_log.specs.History.{History, message_count, remaining}
use Rattle.book_core.proofs.Asked.{remaining-last}
use Rattle.book_core.proofs.book.Book.first_remembered.Goals as goal

pub returns-clause-rest : goal.returns-clause-rest
returns-clause-rest g c =
    subst (λ (h : History). remaining h ≡ range_with_len c.first_kept.result (message_count h - c.first_kept.result)) c.self.view_is
    (remaining-last _ _ c.first_kept.result c.self.invariant.sound c.self.invariant.rows_agree c.first_kept.ensures.count)
