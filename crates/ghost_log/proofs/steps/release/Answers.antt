use Rattle.std.proofs.Common.{arith}
use Rattle.ghost_log.proofs.Keeping.{released_as}
use Rattle.ghost_log.proofs.steps.release.Goals as goal

pub split_seat-requires : goal.split_seat-requires
split_seat-requires g c = (let words = c.requires.words in (c.requires.table, omega (arith, words), released_as _ c.args.number c.args.keeper.now.me c.requires.keeper c.requires.first))
