use Rattle.std.proofs.Common.{arith}
use Rattle.ghost_log.proofs.Keeping.{compares_as}
use Rattle.ghost_log.proofs.steps.review.Goals as goal

pub load-requires : goal.load-requires
load-requires g c = (let words = c.requires.words in (c.requires.table, omega (arith, words), compares_as _ _ _ c.args.keeper.now.me c.requires.keeper))
