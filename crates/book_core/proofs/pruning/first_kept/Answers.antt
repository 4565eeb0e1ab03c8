use Rattle.std.proofs.Common.{arith}
use Rattle.book_core.proofs.PrunedRows.{rows-few, rows-last}
use Rattle.book_core.proofs.pruning.first_kept.Goals as goal

pub overflow_cast-result : goal.overflow_cast-result
overflow_cast-result g c = omega (arith, rows-few c.args.log.now.history (g.S.RowStore.rows c.args.rows.now) c.requires.agree)

pub overflow_sub-result : goal.overflow_sub-result
overflow_sub-result g c = omega (arith, rows-few c.args.log.now.history (g.S.RowStore.rows c.args.rows.now) c.requires.agree)

pub returns-clause-first : goal.returns-clause-first
returns-clause-first g c = λ k d inside. omega (
  arith,
  rows-last c.args.log.now.history (g.S.RowStore.rows c.args.rows.now) c.requires.agree c.requires.sound k d inside,
)

pub returns-clause-count : goal.returns-clause-count
returns-clause-count g c = omega (arith, rows-few c.args.log.now.history (g.S.RowStore.rows c.args.rows.now) c.requires.agree)
