use Rattle.std.proofs.Common.{◌≡◌, List, ℕ, sym, subst}
use Rattle.book_recovery.specs.inner.File.{bodies_of}
use Rattle.book_recovery.specs.inner.Redone.{IsRedone}
use Rattle.book_recovery.proofs.Bodies.{body_at, found_at, goes_on}
use Rattle.book_recovery.proofs.run.redo_all.Goals as goal

pub loop-index-preserved : goal.loop-index-preserved
loop-index-preserved g c =
    let row = c.index-rows-index.result in
    let found = body_at c.args.rows.now c.loop-index.index row (found_at c.args.rows.now c.loop-index.index row c.loop-index-test.true c.index-rows-index.is) in
    let redone = subst (λ (body : List ℕ). IsRedone c.loop-index.book c.redo_body.new.book c.loop-index.seen c.redo_body.new.seen body) c.as_slice.ensures.value c.in-Ok.ensures.redone in
    goes_on c.args.book.now (bodies_of c.args.rows.now) c.loop-index.index c.loop-index.book c.redo_body.new.book c.loop-index.seen c.redo_body.new.seen row.body.items
    c.loop-index.invariant found redone
