use Rattle.book_replay.proofs.Runs.{found_at, goes_on}
use Rattle.book_replay.proofs.run.replay.Goals as goal

pub loop-index-preserved : goal.loop-index-preserved
loop-index-preserved g c =
    let found = found_at c.args.records.now c.loop-index.index c.index-records-index.result c.loop-index-test.true c.index-records-index.is in
    goes_on c.args.book.now c.args.records.now c.loop-index.index c.loop-index.book c.redo.new.book c.index-records-index.result c.loop-index.invariant found c.in-Ok.ensures.booked
