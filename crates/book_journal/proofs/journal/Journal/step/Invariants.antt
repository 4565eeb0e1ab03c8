use Rattle.book_lock.specs.Durable.{changes_of}
use Rattle.book_journal.proofs.journal.Journal.step.Given as goal

-- what is published
abbrev pub ghosts-publish : goal.ghosts-publish
ghosts-publish g a = record { changes = changes_of a.reader.now.seat.seen }
