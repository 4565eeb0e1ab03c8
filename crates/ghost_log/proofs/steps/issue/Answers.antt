use Rattle.std.proofs.Common.{arith}
use Rattle.ghost_log.proofs.Keeping.{issues_as, alone_at}
use Rattle.ghost_log.proofs.steps.issue.Goals as goal

pub split_seat-requires : goal.split_seat-requires
split_seat-requires g c = (let words = c.requires.words in (c.requires.table, omega (arith, words), issues_as _ c.args.keeper.now.me (alone_at c.args.keeper.now.me c.args.keeper.now.me.0.log c.args.number c.requires.keeper)))
