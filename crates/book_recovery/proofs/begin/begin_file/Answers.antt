use Rattle.std.proofs.Common.{rules}
use Rattle.std.specs.Arc.{arc_value}
use Rattle.book_recovery.proofs.Files.{begun}
use Rattle.book_recovery.proofs.begin.begin_file.Goals as goal

pub returns-clause-recovered : goal.returns-clause-recovered
returns-clause-recovered g c =
    begun c.in_ok-header.header.items (record { events_max = c.args.events_max; version = c.args.version.now; document = c.document.result.now })
    (arc_value c.args.plan) c.new-book.result c.in_ok-header.ensures.bytes
    (record { some = c.requires.some; few = c.requires.few; version = c.requires.version; version_text = c.utf8.version; document = c.in_ok-header.ensures.document })
    (search rules) c.new-book.ensures
