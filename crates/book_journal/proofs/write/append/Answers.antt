use Rattle.event_store.specs.Records.{records_in}
use Rattle.book_journal.proofs.Rows.{adds_one}
use Rattle.book_journal.proofs.write.append.Goals as goal

pub returns-clause-added : goal.returns-clause-added
returns-clause-added g c clean =
    let says = c.columns.ensures in
    adds_one (records_in (g.S.Store.view c.args.store.now.store).trees) (records_in (g.S.Store.view c.append.new.self.store).trees) c.args.row.now c.as_slice.result.now c.columns.result
    c.as_slice.ensures.value says.kind says.number says.outcome (c.in_ok-append.ensures.added clean)
