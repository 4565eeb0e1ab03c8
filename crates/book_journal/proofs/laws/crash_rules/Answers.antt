use Rattle.book_journal.proofs.Crashing.{acknowledged, published}
use Rattle.book_journal.proofs.laws.crash_rules.Goals as goal

pub returns-clause-acknowledged : goal.returns-clause-acknowledged
returns-clause-acknowledged g c before opening seat given legal durable committed seen conn channel raw told after is =
    acknowledged g.S.Store.view g.S.Store.recovers before opening given seat legal durable committed seen conn channel raw told after is

pub returns-clause-published : goal.returns-clause-published
returns-clause-published g c before opening entries below given legal committed has =
    published g.S.Store.view g.S.Store.recovers before opening given entries below legal committed has
