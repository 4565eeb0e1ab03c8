use Rattle.std.proofs.Common.{arith}
use Rattle.ghost_log.proofs.Keeping.{leaves_as}
use Rattle.ghost_log.proofs.steps.detach.Goals as goal

pub split_seat-requires : goal.split_seat-requires
split_seat-requires g c = (let words = c.requires.words in (c.requires.table, omega (arith, words), leaves_as _ c.args.number c.args.keeper.now.me c.requires.keeper))
