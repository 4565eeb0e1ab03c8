use Rattle.std.proofs.Common.{arith}
use Rattle.ghost_log.proofs.Keeping.{adds_as, added_as}
use Rattle.ghost_log.proofs.steps.add.Goals as goal

pub load-requires : goal.load-requires
load-requires g c = (let words = c.requires.words in (c.requires.table, omega (arith, words), adds_as g.N.Entries.entries _ _ _ c.args.number c.args.keeper.now.me c.requires.keeper))

pub returns-clause-keeper : goal.returns-clause-keeper
returns-clause-keeper g c = (added_as g.N.Entries.entries c.args.number c.args.keeper.now.me c.load.new.seat.me c.requires.keeper c.load.ensures.2).0

pub returns-clause-agreed : goal.returns-clause-agreed
returns-clause-agreed g c = (added_as g.N.Entries.entries c.args.number c.args.keeper.now.me c.load.new.seat.me c.requires.keeper c.load.ensures.2).1
